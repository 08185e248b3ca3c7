-- The comparison apart from the resend mark, taken apart where the code looks, and what a resend is. Assumes nothing.
use Prim.Native.Nat.{ℕ, ◌+◌, ◌-◌, ◌*◌, ◌/◌, ◌%◌, ◌≤◌, ◌<◌}
use mathlib.Core.Path.{◌≡◌, refl, sym, ap, ◌∙◌}
use mathlib.Core.Bool.{Bool, true, false}
use mathlib.Core.List.{List, ◌∷◌, ◌++◌}
use native.Mathlib.Omega.{arith}
use native.Mathlib.Decide.{dec_lt}
use lib.Dec.{eqb, leb}
use lib.ListN.{length, get_or, take, drop, set, length-set, length-take, get_or-eq_default}
use lib.Seq.{set_split, set_out, set-set, get_or-set_same}
use borrow.Author.Tests.{eq-eqb, ne_eqb, eqb-true, eqb-false, lt-leb}
use Rattle.words.specs.Lists.{both, same_bytes, Compared, pick}
use Rattle.words.proofs.Lists.{same_refl, same_equal, other_length, same_append, rest_part}
use Rattle.packet.specs.Packet.{unmarked, marked, equal_unmarked, resent_equal, body_of}
use Rattle.packet.specs.Promises.{Equal, Resent}

-- A body of four bytes or more: what stands before the status, the status without its mark, what stands behind it.
pub unmarked_split : (b : List ℕ) → 4 ≤ length b → unmarked b ≡ take 3 b ++ (get_or b 3 0 / 2 * 2 ∷ drop 4 b)
unfolding unmarked
unmarked_split b h = set_split b 3 (get_or b 3 0 / 2 * 2) h

pub length_unmarked : (b : List ℕ) → length (unmarked b) ≡ length b
unfolding unmarked
length_unmarked b = length-set b 3 (get_or b 3 0 / 2 * 2)

pub unmarked_pick : (a : Bool) (x y : List ℕ) → unmarked (pick a x y) ≡ pick a (unmarked x) (unmarked y)
unmarked_pick true x y = refl
unmarked_pick false x y = refl

pub equal_split : (a b : List ℕ) → 4 ≤ length a → length a ≡ length b →
    equal_unmarked a b ≡ both (same_bytes (take 3 a) (take 3 b)) (both (eqb (get_or a 3 0 / 2 * 2) (get_or b 3 0 / 2 * 2)) (same_bytes (drop 4 a) (drop 4 b)))
unfolding equal_unmarked same_bytes
equal_split a b h e =
    rw (unmarked_split a h, unmarked_split b (omega arith))
    (same_append (take 3 a) (take 3 b) (get_or a 3 0 / 2 * 2 ∷ drop 4 a) (get_or b 3 0 / 2 * 2 ∷ drop 4 b) (simp length-take (omega arith)))

pub equal_length : {a b : List ℕ} → (length a ≡ length b → ⊥) → Equal a b false
unfolding equal_unmarked
equal_length {a} {b} h = record { is = sym (other_length (unmarked a) (unmarked b) (λ e. h (sym (length_unmarked a) ∙ (e ∙ length_unmarked b)))) }

pub equal_short : {a b : List ℕ} {r : Bool} → length a < 4 → length a ≡ length b → Compared a b r → Equal a b r
unfolding equal_unmarked unmarked
equal_short {a} {b} h e k =
    record { is = k.is ∙ sym (ap (λ (l : List ℕ). same_bytes l (set b 3 (get_or b 3 0 / 2 * 2))) (set_out a 3 (get_or a 3 0 / 2 * 2) (omega arith)) ∙ ap (same_bytes a) (set_out b 3 (get_or b 3 0 / 2 * 2) (omega arith))) }

module _ {a b : List ℕ} {r : Bool} (h : 4 ≤ length a) (e : length a ≡ length b) (front : Compared (take 3 a) (take 3 b) r) where
  pub equal_front : r ≡ false → Equal a b false
  equal_front f = record { is = sym (equal_split a b h e ∙ simp (sym front.is ∙ f)) }

  -- The status of each without its mark, compared.
  module _ {v : Bool} (f : r ≡ true) (q : v ≡ eqb (get_or a 3 0 / 2) (get_or b 3 0 / 2)) where
    pub equal_status : v ≡ false → Equal a b v
    equal_status z =
        let apart = eqb-false (get_or a 3 0 / 2) (get_or b 3 0 / 2) (sym q ∙ z) in
        record { is = z ∙ sym (equal_split a b h e ∙ simp (sym front.is ∙ f, ne_eqb (get_or a 3 0 / 2 * 2) (get_or b 3 0 / 2 * 2) (λ p. apart (omega arith)))) }

    pub equal_rest : {r' : Bool} → v ≡ true → Compared (take (length a - 4) (drop 4 a)) (take (length b - 4) (drop 4 b)) r' → Equal a b r'
    equal_rest z k =
        let alike = eqb-true (get_or a 3 0 / 2) (get_or b 3 0 / 2) (sym q ∙ z) in
        record { is = (rw (rest_part 4 a, rest_part 4 b) at k.is) ∙ sym (equal_split a b h e ∙ simp (sym front.is ∙ f, eq-eqb (get_or a 3 0 / 2 * 2) (get_or b 3 0 / 2 * 2) (omega arith))) }

-- A body that has a status byte has four bytes.
pub never_short : {A : Type 0} {v : Bool} {n : ℕ} → v ≡ true → v ≡ leb 4 n → n < 4 → A
never_short {v} {n} t f h = let e = sym t ∙ (f ∙ lt-leb 4 n h) in absurd (cc)

-- A marked body is a resend where the comparison says so.
pub resent_marked : {last body : List ℕ} {v r : Bool} → v ≡ eqb (get_or body 3 0 % 2) 1 → v ≡ true → Equal last body r → Resent last body r
unfolding resent_equal equal_unmarked
resent_marked q t e = record { is = e.is ∙ simp (sym q ∙ t) }

-- One that is not marked is none, and one that is too short has no mark.
pub resent_plain : {last body : List ℕ} {v : Bool} → v ≡ eqb (get_or body 3 0 % 2) 1 → v ≡ false → Resent last body v
unfolding resent_equal
resent_plain q f = record { is = f ∙ sym (simp (sym q ∙ f)) }

pub resent_short : {last body : List ℕ} {v : Bool} → v ≡ leb 4 (length body) → length body < 4 → Resent last body v
unfolding resent_equal
resent_short {body = body} q h =
    let none : get_or body 3 0 ≡ 0 = get_or-eq_default body 0 (omega arith) in
    record { is = q ∙ (lt-leb 4 (length body) h ∙ sym (rw none refl)) }

-- ---- the mark itself

-- The two statuses that differ only in the mark.
pub unmarked_of : (o s t u : ℕ) (d : List ℕ) → t % 2 ≡ 0 → u / 2 ≡ t / 2 → unmarked (body_of o s u d) ≡ body_of o s t d
unfolding unmarked body_of
unmarked_of o s t u d even h = let e : u / 2 * 2 ≡ t = omega arith in rw e refl

pub marked_of : (o s t : ℕ) (d : List ℕ) → t % 2 ≡ 0 → marked (body_of o s t d) ≡ body_of o s (t + 1) d
unfolding marked body_of
marked_of o s t d even = let e : t / 2 * 2 + 1 ≡ t + 1 = omega arith in rw e refl

-- A marked copy is equal to its packet apart from the mark, and the comparison says so of no other.
pub unmark_mark : (b : List ℕ) → unmarked (marked b) ≡ unmarked b
unfolding unmarked marked
unmark_mark b = by (dec_lt 3 (length b))
  where
    m : ℕ
    m = get_or b 3 0 / 2 * 2 + 1

    by : Dec (3 < length b) → set (set b 3 m) 3 (get_or (set b 3 m) 3 0 / 2 * 2) ≡ set b 3 (get_or b 3 0 / 2 * 2)
    by (yes h) = rw (set-set b 3 m (get_or (set b 3 m) 3 0 / 2 * 2), get_or-set_same b 3 m 0 h) (ap (set b 3) (omega arith))
    by (no h) = rw (set_out b 3 m (omega arith)) (rw (set_out b 3 (get_or b 3 0 / 2 * 2) (omega arith)) refl)

pub equal_same : (a b : List ℕ) → unmarked a ≡ unmarked b → equal_unmarked a b ≡ true
unfolding equal_unmarked
equal_same a b e = rw e (same_refl (unmarked b))

pub equal_only : (a b : List ℕ) → equal_unmarked a b ≡ true → unmarked a ≡ unmarked b
unfolding equal_unmarked
equal_only a b e = same_equal (unmarked a) (unmarked b) e
