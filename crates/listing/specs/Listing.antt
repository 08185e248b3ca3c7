-- A listing over any machine: the characters of a text one after the other, and the lines that are due for them.
use Rattle.std.specs.Prelude.{ℕ, Bool, true, false, Option, Some, None, List, [], ◌++◌}
use Rattle.words.specs.Lists.{pick}
use Rattle.words.specs.Machine.{Done, through}
use Rattle.listing.specs.Lines.{error_line}
use Rattle.listing.specs.Tokens.{take_of}
use Rattle.listing.specs.declared.Token.{Token}

-- Where a listing stands: its machine, the first digit that waits for its second, and whether it has ended with `E`.
pub record Reading (S : Type 0) : Type 0 where
  pub machine : S
  pub waiting : Option ℕ
  pub ended : Bool

abbrev pub starting : {S : Type 0} → S → Reading S
starting s = record { machine = s; waiting = None; ended = false }

-- What a listing does with a token; the digit is the one that waits behind it.
abbrev pub Acts : Type 0 → Type 0
Acts S = S → Option ℕ → Token → Done (Reading S) ℕ

-- No token yet, or none at all.
unfoldable pub skips : {S : Type 0} → S → Option ℕ → Done (Reading S) ℕ
skips s waiting = record { next = record { machine = s; waiting = waiting; ended = false }; told = [] }

-- The machine has taken the token, and these lines are due.
unfoldable pub goes : {S : Type 0} → S → List ℕ → Done (Reading S) ℕ
goes s lines = record { next = starting s; told = lines }

-- What is wrong ends the listing.
unfoldable pub stops : {S : Type 0} → S → Done (Reading S) ℕ
stops s = record { next = record { machine = s; waiting = None; ended = true }; told = error_line }

-- One character.
unfoldable pub list_step : {S : Type 0} → Acts S → Reading S → ℕ → Done (Reading S) ℕ
list_step acts s c =
    pick s.ended (record { next = s; told = [] }) (acts s.machine (take_of s.waiting c).waiting (take_of s.waiting c).token)

-- The end of the text. A digit that still waits stands alone.
unfoldable pub lone_line : Option ℕ → List ℕ
lone_line (Some d) = error_line
lone_line None = []

unfoldable pub last_line : Bool → Option ℕ → List ℕ
last_line ended waiting = pick ended [] (lone_line waiting)

-- All that is printed for a text.
unfoldable pub listing_of : {S : Type 0} → Acts S → S → List ℕ → List ℕ
listing_of acts s text =
    (through (list_step acts) (starting s) text).told
    ++ last_line (through (list_step acts) (starting s) text).next.ended (through (list_step acts) (starting s) text).next.waiting
