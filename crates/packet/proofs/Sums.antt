-- The byte sum: its laws, its bound, and what the loop of `sum` keeps. Assumes nothing.
use Prim.Native.Nat.{ℕ, ◌+◌, ◌*◌, ◌<◌, ◌≤◌}
use mathlib.Core.Path.{◌≡◌, refl, ap, ◌∙◌}
use mathlib.Core.List.{List, [], ◌∷◌, ◌++◌}
use native.Mathlib.Nat.{le_antisymm}
use native.Mathlib.Numerals.{add-one}
use native.Mathlib.Omega.{arith}
use lib.ListN.{length, get_or, take}
use lib.Seq.{take-suc, take-length}
use Rattle.words.specs.Lists.{Bytes}
use Rattle.words.proofs.Lists.{bytes_head, bytes_tail}
use Rattle.packet.specs.Packet.{sum_of}
use Rattle.packet.specs.Promises.{Sum}

pub sum_append : (s t : List ℕ) → sum_of (s ++ t) ≡ sum_of s + sum_of t
unfolding sum_of
sum_append [] t = omega arith
sum_append (x ∷ xs) t = let h = sum_append xs t in omega arith

-- One more byte.
pub sum_take : (s : List ℕ) (i : ℕ) → i < length s → sum_of (take (i + 1) s) ≡ sum_of (take i s) + get_or s i 0
unfolding sum_of
sum_take s i h = rw (add-one i, take-suc s i 0 h, sum_append (take i s) (get_or s i 0 ∷ [])) (omega arith)

-- The sum of n bytes is at most 255 n, so that of a body never passes 65,025.
pub sum_most : (s : List ℕ) → Bytes s → sum_of s ≤ 255 * length s
unfolding sum_of
sum_most [] b = omega arith
sum_most (x ∷ xs) b = let h = sum_most xs (bytes_tail b) in let k = bytes_head b in omega arith

-- A body's first byte, its length, is part of its sum.
pub first_in_sum : (s : List ℕ) → get_or s 0 0 ≤ sum_of s
unfolding sum_of
first_in_sum [] = omega arith
first_in_sum (x ∷ xs) = omega arith

-- The first i bytes are summed.
pub record Summing (s : List ℕ) (total i : ℕ) : Type 0 where
  pub is : total ≡ sum_of (take i s)
  pub most : total ≤ 255 * i

pub summing_none : {s : List ℕ} → Summing s 0 0
unfolding sum_of
summing_none = record { is = refl; most = omega arith }

pub summing_more : {s : List ℕ} {total i x : ℕ} → Summing s total i → i < length s → x ≡ get_or s i 0 → x < 256 → Summing s (total + x) (i + 1)
summing_more {s} {total} {i} {x} k h e l = record { is = let z = sum_take s i h in let y = k.is in omega arith; most = let m = k.most in omega arith }

pub summing_all : {s : List ℕ} {total i : ℕ} → Summing s total i → i ≤ length s → length s ≤ i → length s ≤ 255 → Sum s total
summing_all {s} {total} {i} k at h l =
    let e : i ≡ length s = le_antisymm at h in
    record { is = k.is ∙ (ap (λ (n : ℕ). sum_of (take n s)) e ∙ ap sum_of (take-length s)); most = let m = k.most in omega arith }
