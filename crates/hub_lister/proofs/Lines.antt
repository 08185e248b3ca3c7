-- One law for each answer of the functions that put a line. Assumes nothing.
use Prim.Native.Nat.{ℕ, ◌+◌, ◌<◌, ◌≤◌}
use mathlib.Core.Path.{◌≡◌, refl}
use mathlib.Core.Bool.{true}
use mathlib.Core.List.{List, [], ◌∷◌}
use native.Mathlib.Numerals.{add-one}
use native.Mathlib.Omega.{arith}
use lib.ListN.{length, take, drop, set, length-take}
use Rattle.packet.specs.Sizes.{message_size}
use Rattle.hub.specs.Promises.{hub_answer_size}
use Rattle.hub.specs.declared.Hub.{Hub}
use Rattle.hub.specs.declared.Told.{Told}
use Rattle.hub.specs.declared.Told.TheVariants as told
use Rattle.listing.specs.Lines.{line_of, error_line}
use Rattle.listing.specs.Listing.{stops}
use Rattle.listing.specs.Promises.{PutsLine, PutsAnswer}
use Rattle.std.proofs.Common.{None}
use Rattle.listing.proofs.Endings.{answer_writes}
use Rattle.listing.proofs.Lines.{length_line}
use Rattle.listing.proofs.Rooms.{writes_none, writes_line, writes_on_then, writes_length}
use Rattle.listing.specs.declared.Page.{Page}
use Rattle.hub_lister.specs.Promises.{coded_size, message_line_size, answer_line_size, lines_size, count_of, told_line, Stops, MessageLine, PutsLines}

-- ---- the line of a message

code_in_front : (code count : ℕ) (m : List ℕ) → 0 < length m → take (count + 1) (set m 0 code) ≡ code ∷ take count (drop 1 m)
code_in_front code count [] h = absurd (omega arith)
code_in_front code count (x ∷ xs) h = rw (add-one count) refl

pub a_message : {t : Told} {code count : ℕ} {m : List ℕ} {p p' : Page} → t ≡ told.Message code count → length m ≡ coded_size → count_of t ≤ message_size → p.at + message_line_size ≤ length p.room.now →
    PutsLine (line_of 77 (take (count + 1) (set m 0 code))) p p' → MessageLine t m p p'
unfolding told_line
a_message {code = code} {count} {m = m} e l f h k =
    let few : count ≤ message_size = rw e at f in
    let bytes : List ℕ = code ∷ take count (drop 1 m) in
    let short : length bytes ≤ coded_size = simp length-take (omega arith) in
    let n = length_line 77 bytes in
    record { writes = rw e (writes_line (omega arith) (rw (code_in_front code count m (omega arith)) at k)) }

pub no_message : {t : Told} {m : List ℕ} {p : Page} → ((code count : ℕ) → t ≡ told.Message code count → ⊥) → p.at ≤ length p.room.now → MessageLine t m p p
unfolding told_line
no_message {t = told.Nothing} n h = record { writes = writes_none h }
no_message {t = told.Added} n h = record { writes = writes_none h }
no_message {t = told.Repeated} n h = record { writes = writes_none h }
no_message {t = told.Message code count} n h = absurd (n code count refl)
no_message {t = told.Refused x} n h = record { writes = writes_none h }

-- ---- both

told_size : (t : Told) (m : List ℕ) → count_of t ≤ message_size → length (told_line t m) ≤ message_line_size
unfolding told_line
told_size told.Nothing m h = omega arith
told_size told.Added m h = omega arith
told_size told.Repeated m h = omega arith
told_size (told.Message code count) m h =
    let bytes : List ℕ = code ∷ take count (drop 1 m) in
    let short : length bytes ≤ coded_size = simp length-take (omega arith) in
    let n = length_line 77 bytes in
    omega arith
told_size (told.Refused x) m h = omega arith

pub room_behind : {t : Told} {m : List ℕ} {p p' : Page} → count_of t ≤ message_size → p.at + lines_size ≤ length p.room.now → MessageLine t m p p' → p'.at + answer_line_size ≤ length p'.room.now
room_behind {t} {m} h l k =
    let n = told_size t m h in
    let e = k.writes.writes.is in
    let s = writes_length k.writes.writes in
    omega arith

pub both_lines : {t : Told} {count : ℕ} {answer m : List ℕ} {p p₁ p₂ : Page} → length answer ≡ hub_answer_size → p₁.at + answer_line_size ≤ length p₁.room.now →
    MessageLine t m p p₁ → PutsAnswer (take count answer) p₁ p₂ → PutsLines t count answer m p p₂
both_lines {count = count} {answer = answer} l h k a =
    let short : length (take count answer) ≤ hub_answer_size = simp length-take (omega arith) in
    record { writes = writes_on_then k.writes (answer_writes (omega arith) a) }

-- ---- the line `E`

pub stopped : {hub : Hub} {p p' : Page} → p.at + lines_size ≤ length p.room.now → PutsLine error_line p p' → Stops hub p (record { hub = hub; waiting = None; ended = true }) p'
unfolding stops error_line
stopped h k = let n = length_line 69 [] in record { steps = λ line gather. record { next = refl; writes = writes_line (omega arith) k } }
