-- What a loop over a text keeps: the run over the characters passed, its lines in the room, and how many are still to come.
-- Assumes nothing.
use Prim.Native.Nat.{ℕ, suc, ◌+◌, ◌-◌, ◌<◌, ◌≤◌}
use mathlib.Core.Path.{◌≡◌, refl, sym, ◌∙◌}
use mathlib.Core.Bool.{Bool, true, false, not}
use mathlib.Core.List.{List, [], ◌∷◌, ◌++◌}
use native.Mathlib.Nat.{le_antisymm}
use native.Mathlib.Numerals.{add-one}
use native.Mathlib.Omega.{arith}
use lib.Dec.{leb}
use lib.ListN.{length, get_or, take, drop}
use lib.Seq.{take-suc, drop-cons, drop-length}
use borrow.Author.Tests.{leb-true, not-true}
use Rattle.words.specs.Lists.{over_at}
use Rattle.words.specs.Machine.{Done, after, through}
use Rattle.words.proofs.Lists.{both_left, both_right}
use Rattle.words.proofs.Machine.{through_append, through_one}
use Rattle.listing.specs.Tokens.{take_of}
use Rattle.listing.specs.Listing.{Reading, Acts, list_step}
use Rattle.listing.specs.Session.{goes_on, taken_of, Hears}
use Rattle.listing.specs.declared.Page.{Page}
use Rattle.listing.specs.Promises.{WritesOn, GoesOn, Steps}
use Rattle.listing.proofs.Rooms.{writes_none, writes_on_then, writes_length}

-- ---- a run, one character longer

run_longer : {S I O : Type 0} (step : S → I → Done S O) (s : S) (xs : List I) (x : I) →
    through step s (xs ++ (x ∷ [])) ≡ record { next = (step (through step s xs).next x).next; told = (through step s xs).told ++ (step (through step s xs).next x).told }
unfolding after
run_longer step s xs x = through_append step s xs (x ∷ []) ∙ rw through_one refl

-- ---- the tests before a character

goes_on_right : (most : ℕ) (ended : Bool) (left : ℕ) → goes_on most ended left ≡ true → (ended ≡ false) × (most ≤ left)
unfolding goes_on
goes_on_right most ended left e = (not-true ended (both_left (not ended) (leb most left) e), leb-true most left (both_right (not ended) (leb most left) e))

pub room_for : {most left : ℕ} {ended b : Bool} → GoesOn ended most left b → b ≡ true → most ≤ left
room_for {most} {left} {ended} g e = (goes_on_right most ended left (sym g.is ∙ e)).1

module _ {S : Type 0} (acts : Acts S) (most : ℕ) (s : Reading S) where
  acting : (c : ℕ) → s.ended ≡ false → list_step acts s c ≡ acts s.machine (take_of s.waiting c).waiting (take_of s.waiting c).token
  unfolding list_step
  acting c e = simp e

  taken_more : (left c : ℕ) (cs : List ℕ) → goes_on most s.ended left ≡ true →
      taken_of acts most s left (c ∷ cs) ≡ suc (taken_of acts most (list_step acts s c).next (left - length (list_step acts s c).told) cs)
  unfolding taken_of
  taken_more left c cs e = simp e

  taken_none : (left c : ℕ) (cs : List ℕ) → goes_on most s.ended left ≡ false → taken_of acts most s left (c ∷ cs) ≡ 0
  unfolding taken_of
  taken_none left c cs e = simp e

-- ---- the loop

pub record Listing {S : Type 0} (acts : Acts S) (most : ℕ) (s₀ : Reading S) (text : List ℕ) (p₀ : Page) (s : Reading S) (p : Page) (i : ℕ) : Type 0 where
  pub passed : i ≤ length text
  pub reading : s ≡ (through (list_step acts) s₀ (take i text)).next
  pub writes : WritesOn (through (list_step acts) s₀ (take i text)).told p₀ p
  pub still : taken_of acts most s₀ (length p₀.room.now) text ≡ i + taken_of acts most s (length p₀.room.now - p.at) (drop i text)
  pub front : p₀.at ≡ 0
  pub long : length p.room.now ≡ length p₀.room.now
  pub inside : p.at ≤ length p.room.now

pub listing_none : {S : Type 0} {acts : Acts S} {most : ℕ} {s : Reading S} {text : List ℕ} {p : Page} → p.at ≡ 0 → Listing acts most s text p s p 0
unfolding through
listing_none {S} {acts} {most} {s} {text} {p} e =
    let all : length p.room.now ≡ length p.room.now - p.at = omega arith in
    record {
      passed = omega arith;
      reading = refl;
      writes = writes_none (omega arith);
      still = rw (← all) (omega arith);
      front = e;
      long = refl;
      inside = omega arith;
    }

module _ {S : Type 0} {acts : Acts S} {most : ℕ} {s₀ : Reading S} {text : List ℕ} {p₀ : Page} {s : Reading S} {p : Page} {i : ℕ} (k : Listing acts most s₀ text p₀ s p i) where
  pub listing_more : {b : Bool} {s' : Reading S} {p' : Page} → i < length text → GoesOn s.ended most (length p.room.now - p.at) b → b ≡ true →
      Steps (acts s.machine (take_of s.waiting (get_or text i 0)).waiting (take_of s.waiting (get_or text i 0)).token) p s' p' →
      Listing acts most s₀ text p₀ s' p' (i + 1)
  listing_more {b} {s'} {p'} h g e q =
      let c = get_or text i 0 in
      let goes : goes_on most s.ended (length p.room.now - p.at) ≡ true = sym g.is ∙ e in
      let tests = goes_on_right most s.ended (length p.room.now - p.at) goes in
      let d = acting acts most s c tests.0 in
      let next : s' ≡ (list_step acts s c).next = rw d q.next in
      let writes : WritesOn (list_step acts s c).told p p' = rw d q.writes in
      let run : through (list_step acts) s₀ (take (i + 1) text) ≡ record { next = (list_step acts s c).next; told = (through (list_step acts) s₀ (take i text)).told ++ (list_step acts s c).told } =
      rw (add-one i, take-suc text i 0 h, k.reading) (run_longer (list_step acts) s₀ (take i text) c) in
      let where_at = writes.writes.is in
      let long = writes_length writes.writes in
      let left : length p₀.room.now - p.at - length (list_step acts s c).told ≡ length p₀.room.now - p'.at = omega arith in
      let more : taken_of acts most s (length p₀.room.now - p.at) (drop i text) ≡ suc (taken_of acts most (list_step acts s c).next (length p₀.room.now - p.at - length (list_step acts s c).told) (drop (suc i) text)) =
      rw (drop-cons text i 0 h) (taken_more acts most s (length p₀.room.now - p.at) c (drop (suc i) text) (rw k.long at goes)) in
      let rest : taken_of acts most s' (length p₀.room.now - p'.at) (drop (i + 1) text) ≡ taken_of acts most (list_step acts s c).next (length p₀.room.now - p.at - length (list_step acts s c).told) (drop (suc i) text) =
      rw (next, left, add-one i) refl in
      record {
        passed = omega arith;
        reading = rw run next;
        writes = rw run (writes_on_then k.writes writes);
        still = omega (arith, k.still, more, rest);
        front = k.front;
        long = long ∙ k.long;
        inside = let m = writes.writes.inside in omega arith;
      }

  listened : i ≡ taken_of acts most s₀ (length p₀.room.now) text → Hears acts most s₀ text p₀.room.now i p.at s p.room.now
  unfolding over_at
  listened e =
      record {
        taken_is = e;
        next = k.reading;
        count_is = let n = k.writes.writes.is in omega (arith, k.front);
        room_is = let r = k.writes.writes.room_is in rw k.front at r;
        within = k.passed;
        inside = k.writes.writes.inside;
      }

  -- The text has ended.
  pub listing_all : length text ≤ i → Hears acts most s₀ text p₀.room.now (length text) p.at s p.room.now
  unfolding taken_of
  listing_all h =
      let e : i ≡ length text = le_antisymm k.passed h in
      let none : drop i text ≡ [] = rw e (drop-length text) in
      let n : taken_of acts most s (length p₀.room.now - p.at) (drop i text) ≡ 0 = rw none refl in
      rw (← e) (listened (omega (arith, k.still, n)))

  -- The listing has ended, or the room might not do.
  pub listing_left : {b : Bool} → i < length text → GoesOn s.ended most (length p.room.now - p.at) b → b ≡ false → Hears acts most s₀ text p₀.room.now i p.at s p.room.now
  listing_left h g e =
      let goes : goes_on most s.ended (length p.room.now - p.at) ≡ false = sym g.is ∙ e in
      let n : taken_of acts most s (length p₀.room.now - p.at) (drop i text) ≡ 0 =
      rw (drop-cons text i 0 h) (taken_none acts most s (length p₀.room.now - p.at) (get_or text i 0) (drop (suc i) text) (rw k.long at goes)) in
      listened (omega (arith, k.still, n))
