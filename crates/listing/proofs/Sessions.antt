-- However a text is cut, what a session has written for it is the listing of the whole. Assumes nothing.
use Prim.Native.Nat.{ℕ, ◌≤◌}
use mathlib.Core.Path.{◌≡◌, refl, sym, ap, ◌∙◌}
use mathlib.Core.Bool.{Bool, true, false}
use mathlib.Core.List.{List, [], ◌∷◌, ◌++◌, append-nil}
use native.Mathlib.Omega.{arith}
use lib.ListN.{length, take}
use borrow.Author.Tests.{le-leb}
use Rattle.words.specs.Lists.{over_at}
use Rattle.words.specs.Machine.{after, through}
use Rattle.words.proofs.Lists.{take_over}
use Rattle.words.proofs.Machine.{through_append}
use Rattle.listing.specs.Lines.{error_line}
use Rattle.listing.specs.Listing.{Reading, Acts, starting, list_step, lone_line, last_line, listing_of}
use Rattle.listing.specs.Session.{goes_on, taken_of, Hears, Session, begun, more, Ran}
use Rattle.listing.specs.Promises.{Writes, Finishes}
use Rattle.std.proofs.Common.{Option, Some, None}
use Rattle.listing.proofs.Lines.{length_line}
use Rattle.listing.proofs.Rooms.{writes_put, puts_inside}

-- ---- what the loops that read and write keep

pub ran_none : {S : Type 0} {acts : Acts S} {most : ℕ} {start : S} {s : Reading S} → s ≡ starting start → Ran acts most start s
ran_none e = rw e (record { taken = []; written = []; session = begun })

pub ran_more : {S : Type 0} {acts : Acts S} {most : ℕ} {start : S} {s : Reading S} {text room : List ℕ} {n count : ℕ} {s' : Reading S} {room' : List ℕ} →
    Ran acts most start s → Hears acts most s text room n count s' room' → Ran acts most start s'
ran_more k h = record { taken = _; written = _; session = more k.session h }

-- A room for the lines of one character: at least one is taken.
some_taken : {S : Type 0} (acts : Acts S) (most : ℕ) (s : Reading S) (left : ℕ) (text : List ℕ) → s.ended ≡ false → most ≤ left → 1 ≤ length text → 1 ≤ taken_of acts most s left text
unfolding taken_of goes_on
some_taken acts most s left [] e h t = absurd (omega arith)
some_taken acts most s left (c ∷ cs) e h t = simp (e, le-leb most left h) (omega arith)

pub one_taken : {S : Type 0} {acts : Acts S} {most : ℕ} {s : Reading S} {text room : List ℕ} {n count : ℕ} {s' : Reading S} {room' : List ℕ} → Hears acts most s text room n count s' room' →
    s.ended ≡ false → most ≤ length room → 1 ≤ length text → 1 ≤ n
one_taken {S} {acts} {most} {s} {text} {room} k e h t = rw k.taken_is (some_taken acts most s (length room) text e h t)

pub finish_inside : {ended : Bool} {waiting : Option ℕ} {room room' : List ℕ} {r : ℕ} → Finishes ended waiting room r room' → r ≤ length room
finish_inside k = puts_inside (omega arith) k.puts

-- ---- a session

-- What one call has written.
lines_told : {S : Type 0} {acts : Acts S} {most : ℕ} {s : Reading S} {text room : List ℕ} {n count : ℕ} {s' : Reading S} {room' : List ℕ} → Hears acts most s text room n count s' room' →
    take count room' ≡ (through (list_step acts) s (take n text)).told
lines_told {room = room} {count = count} k = rw k.room_is (take_over _ room count k.count_is)

-- What has been written is what the run over the characters taken tells, and the listing stands where that run ends.
pub record Runs {S : Type 0} (acts : Acts S) (start : S) (taken written : List ℕ) (s : Reading S) : Type 0 where
  pub stands : s ≡ (through (list_step acts) (starting start) taken).next
  pub tells : written ≡ (through (list_step acts) (starting start) taken).told

pub session_runs : {S : Type 0} {acts : Acts S} {most : ℕ} {start : S} {taken written : List ℕ} {s : Reading S} → Session acts most start taken written s → Runs acts start taken written s
unfolding through after
session_runs begun = record { stands = refl; tells = refl }
session_runs {acts = acts} {start = start} (more {taken = taken} {text = text} {n = n} s k) =
    let h = session_runs s in
    let run = through_append (list_step acts) (starting start) taken (take n text) in
    record { stands = k.next ∙ rw (run, h.stands) refl; tells = rw (run, h.tells, lines_told k, h.stands) refl }

-- Where the input ends, all that has been written is the listing of all characters taken.
short_last : (ended : Bool) (waiting : Option ℕ) → length (last_line ended waiting) ≤ 2
unfolding last_line lone_line error_line
short_last true w = omega arith
short_last false (Some d) = let n = length_line 69 [] in omega arith
short_last false None = omega arith

pub session_ends : {S : Type 0} {acts : Acts S} {most : ℕ} {start : S} {taken written : List ℕ} {s : Reading S} {room room' : List ℕ} {r : ℕ} →
    Session acts most start taken written s → 2 ≤ length room → Finishes s.ended s.waiting room r room' → written ++ take r room' ≡ listing_of acts start taken
unfolding listing_of over_at
session_ends {s = s} {room = room} {room' = room'} {r = r} q h f =
    let k = session_runs q in
    let last = last_line s.ended s.waiting in
    let short = short_last s.ended s.waiting in
    let w : Writes last 0 room r room' = writes_put (omega arith) f.puts in
    let e = w.is in
    let line-last : take r room' ≡ last = rw w.room_is (take_over last room r (omega arith)) in
    rw (line-last, k.tells, ← k.stands) refl

-- A listing that has ended says nothing more, whatever comes.
ended_step : {S : Type 0} (acts : Acts S) (s : Reading S) (c : ℕ) → s.ended ≡ true → list_step acts s c ≡ record { next = s; told = [] }
unfolding list_step
ended_step acts s c e = simp e

ended_stays : {S : Type 0} (acts : Acts S) (s : Reading S) → s.ended ≡ true → (rest : List ℕ) → through (list_step acts) s rest ≡ record { next = s; told = [] }
unfolding through after
ended_stays acts s e [] = refl
ended_stays acts s e (c ∷ cs) = let d = ended_step acts s c e in rw (d, ended_stays acts s e cs) refl

pub session_ended : {S : Type 0} {acts : Acts S} {most : ℕ} {start : S} {taken written : List ℕ} {s : Reading S} →
    Session acts most start taken written s → s.ended ≡ true → (rest : List ℕ) → written ≡ listing_of acts start (taken ++ rest)
unfolding listing_of after last_line
session_ended {S} {acts} {most} {start} {taken} q e rest =
    let k = session_runs q in
    let over : (through (list_step acts) (starting start) taken).next.ended ≡ true = ap (λ (x : Reading S). x.ended) (sym k.stands) ∙ e in
    let run = through_append (list_step acts) (starting start) taken rest in
    rw (run, ended_stays acts (through (list_step acts) (starting start) taken).next over rest, over) (k.tells ∙ sym (append-nil _ ∙ append-nil _))
