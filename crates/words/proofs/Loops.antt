-- What a loop keeps that copies, compares or fills place by place, and the laws of a turn and of the end. Assumes nothing.
use Prim.Native.Nat.{ℕ, suc, ◌+◌, ◌<◌, ◌≤◌}
use mathlib.Core.Path.{◌≡◌, refl, sym, ap, ◌∙◌}
use mathlib.Core.Bool.{true, false}
use mathlib.Core.List.{List, ◌++◌}
use native.Mathlib.Nat.{le_antisymm}
use native.Mathlib.Numerals.{add-one}
use native.Mathlib.Omega.{arith}
use lib.ListN.{length, get_or, take, drop, set, length-set}
use lib.Seq.{take_all, take-length, drop-length, length-take-le, drop-cons, take-suc, take-suc-set, set_at, append_snoc}
use Rattle.words.specs.Lists.{over, Over, same_bytes, Compared}
use Rattle.words.proofs.Lists.{same_step, same_stop, other_length}

-- The first i bytes are copied.
pub record Copying (from room₀ room : List ℕ) (i : ℕ) : Type 0 where
  pub at : i ≤ length from
  pub fits : length from ≤ length room₀
  pub long : length room ≡ length room₀
  pub is : room ≡ take i from ++ drop i room₀

pub copied_none : {from room : List ℕ} → length from ≤ length room → Copying from room room 0
copied_none h = record { at = omega arith; fits = h; long = refl; is = refl }

pub copied_more : {from room₀ room : List ℕ} {i : ℕ} → Copying from room₀ room i → i < length from → Copying from room₀ (set room i (get_or from i 0)) (i + 1)
copied_more {from} {room₀} {room} {i} k h =
    let inside : i < length room₀ = omega (arith, k.fits) in
    record {
      at = omega arith;
      fits = k.fits;
      long = length-set room i (get_or from i 0) ∙ k.long;
      is =
          rw (k.is, add-one i, drop-cons room₀ i 0 inside)
          (set_at (take i from) (get_or room₀ i 0) (drop (suc i) room₀) (get_or from i 0) i (length-take-le i from k.at)
          ∙ rw (take-suc from i 0 h) (sym (append_snoc (take i from) (get_or from i 0) (drop (suc i) room₀))));
    }

pub copied_all : {from room₀ room : List ℕ} {i : ℕ} → Copying from room₀ room i → length from ≤ i → Over from room₀ room
unfolding over
copied_all {from} {room₀} {room} {i} k h =
    let e : i ≡ length from = le_antisymm k.at h in
    record { is = k.is ∙ rw (e, take-length from) refl }

-- Lists of other lengths.
pub unlike : {a b : List ℕ} → (length a ≡ length b → ⊥) → Compared a b false
unlike {a} {b} h = record { is = sym (other_length a b h) }

-- Both lists are equal up to i, so the comparison is that of the rests.
pub record Alike (a b : List ℕ) (i : ℕ) : Type 0 where
  pub at : i ≤ length a
  pub long : length a ≡ length b
  pub rest : same_bytes a b ≡ same_bytes (drop i a) (drop i b)

pub alike_none : {a b : List ℕ} → length a ≡ length b → Alike a b 0
alike_none e = record { at = omega arith; long = e; rest = refl }

pub alike_more : {a b : List ℕ} {i : ℕ} → Alike a b i → i < length a → get_or a i 0 ≡ get_or b i 0 → Alike a b (i + 1)
alike_more {a} {b} {i} k h e =
    record { at = omega arith; long = k.long; rest = k.rest ∙ (same_step a b i h (omega (arith, k.long)) e ∙ rw (← add-one i) refl) }

pub alike_stop : {a b : List ℕ} {i : ℕ} → Alike a b i → i < length a → (get_or a i 0 ≡ get_or b i 0 → ⊥) → Compared a b false
alike_stop {a} {b} {i} k h e = record { is = sym (k.rest ∙ same_stop a b i h (omega (arith, k.long)) e) }

pub alike_all : {a b : List ℕ} {i : ℕ} → Alike a b i → length a ≤ i → Compared a b true
unfolding same_bytes
alike_all {a} {b} {i} k h =
    let e : i ≡ length a = le_antisymm k.at h in
    let f : i ≡ length b = e ∙ k.long in
    record { is = sym (k.rest ∙ (ap (λ (n : ℕ). same_bytes (drop n a) (drop i b)) e ∙ (ap (λ (n : ℕ). same_bytes (drop (length a) a) (drop n b)) f ∙ simp drop-length))) }

-- An array that is filled place by place: its first i elements are those of the list that it becomes.
pub record Filling {A : Type 0} (whole filled : List A) (i : ℕ) : Type 0 where
  pub at : i ≤ length whole
  pub long : length filled ≡ length whole
  pub is : take i filled ≡ take i whole

pub filled_none : {A : Type 0} {whole filled : List A} → length filled ≡ length whole → Filling whole filled 0
filled_none e = record { at = omega arith; long = e; is = refl }

pub filled_more : {A : Type 0} {whole filled : List A} {i : ℕ} (d x : A) → Filling whole filled i → i < length whole → x ≡ get_or whole i d → Filling whole (set filled i x) (i + 1)
filled_more {whole = whole} {filled} {i} d x k h e =
    record {
      at = omega arith;
      long = length-set filled i x ∙ k.long;
      is = rw (add-one i, take-suc-set filled i x (omega (arith, k.long)), k.is, e) (sym (take-suc whole i d h));
    }

pub filled_all : {A : Type 0} {whole filled : List A} {i : ℕ} → Filling whole filled i → length whole ≤ i → filled ≡ whole
filled_all {whole = whole} {filled} {i} k h = sym (take_all i filled (omega (arith, k.long))) ∙ (k.is ∙ take_all i whole h)
