-- What each function of `listing` promises: its answer, and every byte of the room it was lent.
use Rattle.std.specs.Prelude.{ℕ, ◌+◌, ◌/◌, ◌%◌, ◌≤◌, Bool, Option, List, [], ◌∷◌, ◌≡◌, length}
use Rattle.words.specs.Lists.{over_at}
use Rattle.words.specs.Machine.{Done}
use Rattle.listing.specs.Lines.{capital_of, answer_line, fitting}
use Rattle.listing.specs.Listing.{Reading, last_line}
use Rattle.listing.specs.Session.{goes_on}
use Rattle.listing.specs.Tokens.{digit_of, sign_of, byte_of, take_of}
use Rattle.listing.specs.declared.Token.{Token}
use Rattle.listing.specs.declared.Taken.{Taken}
use Rattle.listing.specs.declared.Page.{Page}

pub record IsDigit (character : ℕ) (r : Option ℕ) : Type 0 where
  pub is : r ≡ digit_of character

pub record Takes (waiting : Option ℕ) (character : ℕ) (r : Taken) : Type 0 where
  pub is : r ≡ take_of waiting character

pub record Spelt (b : ℕ) (r : List ℕ) : Type 0 where
  pub is : r ≡ capital_of (b / 16) ∷ capital_of (b % 16) ∷ []

-- What was put, and the place behind it.
pub record Puts (p : List ℕ) (at : ℕ) (room : List ℕ) (r : ℕ) (room' : List ℕ) : Type 0 where
  pub is : r ≡ at + length (fitting p at room)
  pub room_is : room' ≡ over_at at (fitting p at room) room

-- Behind the reference of a page lies the same room as before.
pub record SamePage (p p' : Page) : Type 0 where
  pub room : p'.room.ghost_name ≡ p.room.ghost_name

-- The same behind the lines that stand on a page.
pub record PutsLine (s : List ℕ) (p p' : Page) : Type 0 where
  pub puts : Puts s p.at p.room.now p'.at p'.room.now
  pub page : SamePage p p'

pub record PutsAnswer (answer : List ℕ) (p p' : Page) : Type 0 where
  pub line : PutsLine (answer_line answer) p p'

pub record Finishes (ended : Bool) (waiting : Option ℕ) (room : List ℕ) (r : ℕ) (room' : List ℕ) : Type 0 where
  pub puts : Puts (last_line ended waiting) 0 room r room'

pub record GoesOn (ended : Bool) (most left : ℕ) (r : Bool) : Type 0 where
  pub is : r ≡ goes_on most ended left

-- ---- the functions inside

pub record Signs (character : ℕ) (r : Token) : Type 0 where
  pub is : r ≡ sign_of character

pub record Joined (high low r : ℕ) : Type 0 where
  pub is : r ≡ byte_of high low

pub record Capital (n r : ℕ) : Type 0 where
  pub is : r ≡ capital_of n

-- The same as `Puts` where it is known to fit.
pub record Writes (p : List ℕ) (at : ℕ) (room : List ℕ) (r : ℕ) (room' : List ℕ) : Type 0 where
  pub is : r ≡ at + length p
  pub room_is : room' ≡ over_at at p room
  pub inside : r ≤ length room

pub record WritesOn (s : List ℕ) (p p' : Page) : Type 0 where
  pub writes : Writes s p.at p.room.now p'.at p'.room.now
  pub page : SamePage p p'

-- What a step, d, of a listing leaves: where the listing then stands, and its lines behind those on the page.
pub record Steps {S : Type 0} (d : Done (Reading S) ℕ) (p : Page) (s' : Reading S) (p' : Page) : Type 0 where
  pub next : s' ≡ d.next
  pub writes : WritesOn d.told p p'
