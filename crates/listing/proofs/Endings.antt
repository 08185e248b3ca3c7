-- One law for each answer of the functions that put the line of an answer and the last line. Assumes nothing.
use Prim.Native.Nat.{ℕ, ◌+◌, ◌*◌, ◌≤◌}
use mathlib.Core.Path.{◌≡◌, refl}
use mathlib.Core.Bool.{Bool, true, false}
use mathlib.Core.List.{List, [], ◌∷◌}
use native.Mathlib.Omega.{arith}
use lib.ListN.{length}
use Rattle.listing.specs.Lines.{line_of, answer_line, error_line}
use Rattle.listing.specs.Listing.{lone_line, last_line}
use Rattle.listing.specs.declared.Page.{Page}
use Rattle.listing.specs.Promises.{PutsLine, PutsAnswer, WritesOn, Finishes}
use Rattle.std.proofs.Common.{Option, Some, None}
use Rattle.listing.proofs.Lines.{length_line}
use Rattle.listing.proofs.Rooms.{puts_nothing, writes_line}

-- ---- an answer

pub no_answer : {answer : List ℕ} {p : Page} → length answer ≡ 0 → PutsAnswer answer p p
unfolding answer_line
no_answer {answer = []} e = record { line = record { puts = puts_nothing; page = record { room = refl } } }
no_answer {answer = b ∷ bs} e = absurd (omega arith)

pub an_answer : {answer : List ℕ} {p p' : Page} → (length answer ≡ 0 → ⊥) → PutsLine (line_of 65 answer) p p' → PutsAnswer answer p p'
unfolding answer_line
an_answer {answer = []} z k = absurd (z refl)
an_answer {answer = b ∷ bs} z k = record { line = k }

-- Its size, and the line where that is there.
pub answer_size_lem : (answer : List ℕ) → length (answer_line answer) ≤ 3 * length answer + 2
unfolding answer_line
answer_size_lem [] = omega arith
answer_size_lem (b ∷ bs) = let n = length_line 65 (b ∷ bs) in omega arith

pub answer_writes : {answer : List ℕ} {p p' : Page} → p.at + 3 * length answer + 2 ≤ length p.room.now → PutsAnswer answer p p' → WritesOn (answer_line answer) p p'
answer_writes {answer} h k = let n = answer_size_lem answer in writes_line (omega arith) k.line

-- ---- the last line

module _ {ended : Bool} {waiting : Option ℕ} {room : List ℕ} where
  pub last_ended : ended ≡ true → Finishes ended waiting room 0 room
  unfolding last_line
  last_ended e = record { puts = simp e (puts_nothing) }

  -- The room comes back as the page left it.
  pub last_lone : {d : ℕ} {p p' : Page} {room' : List ℕ} → ended ≡ false → waiting ≡ Some d → p.at ≡ 0 → p.room.now ≡ room → PutsLine error_line p p' → p'.room.now ≡ room' → Finishes ended waiting room p'.at room'
  unfolding last_line lone_line
  last_lone e w z q k b = record { puts = simp e (rw (w, ← z, ← q, ← b) k.puts) }

  pub last_right : ended ≡ false → waiting ≡ None → Finishes ended waiting room 0 room
  unfolding last_line lone_line
  last_right e w = record { puts = simp e (rw w (puts_nothing)) }
