-- Laws of the list vocabulary: rooms, parts put back, and the comparison of two lists.
-- Assumes nothing.
use Prim.Native.Nat.{ℕ, zero, suc, min, ◌+◌, ◌-◌, ◌<◌, ◌≤◌}
use mathlib.Core.Path.{◌≡◌, refl, sym, ap, ◌∙◌}
use mathlib.Core.Bool.{Bool, true, false, ◌&&◌}
use mathlib.Core.List.{List, [], ◌∷◌, ◌++◌, append_assoc}
use native.Mathlib.Numerals.{add-one}
use native.Mathlib.Omega.{arith}
use native.Mathlib.Decide.{dec_le}
use lib.Dec.{eqb}
use lib.ListN.{length, get_or, take, drop, set, take-append-drop, length-append, length-take, length-drop}
use lib.Seq.{set_split, take_at, drop_at, take-append-add, drop-append-add, take-length, length-take-le, drop-drop, take_all, drop-cons, take-append-le, drop-append-le}
use lib.Pointwise.{pointwise}
use Rattle.std.proofs.lemmas.List.{drop_all, append-nil}
use borrow.Author.Tests.{eq-eqb, ne_eqb, eqb-true}
use Rattle.words.specs.Lists.{both, Bytes, over, over_at, Over, Copied, same_bytes, Compared, either}

-- ---- contradictions and tests

-- For a case that cannot be: two constructors that are equal give 0 ≡ 1.
pub never : {A : Type 0} → ◌≡◌ {A = ℕ} 0 1 → A
never z = absurd (omega arith)

pub either_true : (a : Bool) → either a true ≡ true
either_true true = refl
either_true false = refl

pub both_left : (a b : Bool) → both a b ≡ true → a ≡ true
both_left true b e = refl
both_left false b e = e

pub both_right : (a b : Bool) → both a b ≡ true → b ≡ true
both_right true b e = e
both_right false b e = cc

pub both_false : (a b : Bool) → b ≡ false → both a b ≡ false
both_false true b e = e
both_false false b e = refl

pub both_assoc : (a b d : Bool) → both a (both b d) ≡ both (both a b) d
both_assoc true b d = refl
both_assoc false b d = refl

-- ---- bytes

pub bytes_nil : Bytes []
bytes_nil = record { each = λ i. omega arith }

pub bytes_cons : {x : ℕ} {s : List ℕ} → x < 256 → Bytes s → Bytes (x ∷ s)
bytes_cons {x} {s} h b = record { each = at }
  where
    at : (i : ℕ) → get_or (x ∷ s) i 0 < 256
    at zero = h
    at (suc i) = b.each i

pub bytes_head : {x : ℕ} {s : List ℕ} → Bytes (x ∷ s) → x < 256
bytes_head b = b.each 0

pub bytes_tail : {x : ℕ} {s : List ℕ} → Bytes (x ∷ s) → Bytes s
bytes_tail b = record { each = λ i. b.each (suc i) }

pub bytes_take : (n : ℕ) {s : List ℕ} → Bytes s → Bytes (take n s)
bytes_take zero b = bytes_nil
bytes_take (suc n) {s = []} b = bytes_nil
bytes_take (suc n) {s = x ∷ xs} b = bytes_cons (bytes_head b) (bytes_take n (bytes_tail b))

pub bytes_drop : (n : ℕ) {s : List ℕ} → Bytes s → Bytes (drop n s)
bytes_drop zero b = b
bytes_drop (suc n) {s = []} b = bytes_nil
bytes_drop (suc n) {s = x ∷ xs} b = bytes_drop n (bytes_tail b)

pub bytes_append : {s t : List ℕ} → Bytes s → Bytes t → Bytes (s ++ t)
bytes_append {s = []} b c = c
bytes_append {s = x ∷ xs} b c = bytes_cons (bytes_head b) (bytes_append (bytes_tail b) c)

-- ---- rooms

pub over_nil : (room : List ℕ) → over [] room ≡ room
unfolding over
over_nil room = refl

pub length_over : (p room : List ℕ) → length p ≤ length room → length (over p room) ≡ length room
unfolding over
length_over p room h = simp (length-append, length-drop) (omega arith)

pub take_over : (p room : List ℕ) (n : ℕ) → n ≡ length p → take n (over p room) ≡ p
unfolding over
take_over p room n e = rw (e, take-append-le (length p) p (drop (length p) room) (omega arith)) (take-length p)

pub drop_over : (p room : List ℕ) (n : ℕ) → length p ≤ n → drop n (over p room) ≡ drop n room
unfolding over
drop_over p room n h =
    let e : n ≡ length p + (n - length p) = omega arith in
    rw e (drop-append-add p (drop (length p) room) (n - length p) ∙ drop-drop (n - length p) (length p) room)

pub take_over_at : (a : ℕ) (q room : List ℕ) → a ≤ length room → take a (over_at a q room) ≡ take a room
unfolding over_at
take_over_at a q room h = take_at (take a room) (over q (drop a room)) a (length-take-le a room h)

pub drop_over_at : (a : ℕ) (q room : List ℕ) → a ≤ length room → drop a (over_at a q room) ≡ over q (drop a room)
unfolding over_at
drop_over_at a q room h = drop_at (take a room) (over q (drop a room)) a (length-take-le a room h)

pub length_over_at : (a : ℕ) (q room : List ℕ) → a + length q ≤ length room → length (over_at a q room) ≡ length room
unfolding over_at over
length_over_at a q room h = simp (length-append, length-take, length-drop) (omega arith)

-- What is written over is lost, whatever it was.
pub over_rest : (p room room' : List ℕ) → drop (length p) room ≡ drop (length p) room' → over p room ≡ over p room'
unfolding over
over_rest p room room' e = ap (λ (r : List ℕ). p ++ r) e

pub over_over : (p q room : List ℕ) → length q ≤ length p → over p (over q room) ≡ over p room
over_over p q room h = over_rest p (over q room) room (drop_over q room (length p) h)

pub over_over_at : (a : ℕ) (p q room : List ℕ) → a ≤ length room → a + length q ≤ length p → over p (over_at a q room) ≡ over p room
over_over_at a p q room h l =
    let k = length p - a in
    let e : length p ≡ a + k = omega arith in
    over_rest p (over_at a q room) room
    (rw e (sym (drop-drop k a (over_at a q room)) ∙ (rw (drop_over_at a q room h) (drop_over q (drop a room) k (omega arith)) ∙ drop-drop k a room)))

pub over_take : (n : ℕ) (s : List ℕ) → over (take n s) s ≡ s
unfolding over
over_take zero s = refl
over_take (suc n) [] = refl
over_take (suc n) (x ∷ xs) = ap (λ (l : List ℕ). x ∷ l) (over_take n xs)

-- Written over, and then behind that: written over at once.
pub over_behind : (n : ℕ) (p q room : List ℕ) → length p ≡ n → over_at n q (over p room) ≡ over (p ++ q) room
unfolding over over_at
over_behind n p q room e =
    rw (take_at p (drop (length p) room) n e, drop_at p (drop (length p) room) n e)
    (sym (append_assoc p q (drop (length (p ++ q)) room) ∙ ap (λ (l : List ℕ). p ++ (q ++ l)) (rw (length-append p q) (sym (drop-drop (length q) (length p) room)))))

-- The same from a place on.
pub over_at_behind : (i m : ℕ) (p q room : List ℕ) → m ≡ i + length p → i ≤ length room → over_at m q (over_at i p room) ≡ over_at i (p ++ q) room
unfolding over_at
over_at_behind i m p q room e h =
    let front = take i room in
    let long : length front ≡ i = length-take-le i room h in
    let rest = over p (drop i room) in
    let place : m ≡ length front + length p = omega arith in
    rw (place, take-append-add front rest (length p), drop-append-add front rest (length p), append_assoc front (take (length p) rest) (over q (drop (length p) rest)))
    (ap (λ (l : List ℕ). front ++ l) (over_behind (length p) p q (drop i room) refl))

-- ---- a part that was lent and has come back

-- All bytes from a on.
pub rest_part : (a : ℕ) (s : List ℕ) → take (length s - a) (drop a s) ≡ drop a s
rest_part a s = take_all (length s - a) (drop a s) (simp length-drop (omega arith))

-- k bytes from a on were lent, and came back with q at their front.
pub part_over : (a k : ℕ) (q room part : List ℕ) → length q ≤ k → a + k ≤ length room → part ≡ over q (take k (drop a room)) →
    take a room ++ (part ++ drop k (drop a room)) ≡ over_at a q room
unfolding over over_at
part_over a k q room part h l e =
    let rest = drop a room in
    let long : length (take k rest) ≡ k = simp (length-take, length-drop) (omega arith) in
    ap (λ (r : List ℕ). take a room ++ r)
    (rw e
    (append_assoc q (drop (length q) (take k rest)) (drop k rest)
    ∙ ap (λ (r : List ℕ). q ++ r) (sym (drop-append-le (length q) (take k rest) (drop k rest) (omega arith)) ∙ ap (λ (r : List ℕ). drop (length q) r) (take-append-drop k rest))))

-- What was lent from a place on has come back.
abbrev pub back : ℕ → List ℕ → List ℕ → List ℕ
back a part room = take a room ++ (part ++ drop (length room - a) (drop a room))

-- A part behind the one before it.
pub behind : (a : ℕ) (p q room room₁ part : List ℕ) → length p ≡ a → a + length q ≤ length room → room₁ ≡ over p room →
    part ≡ over q (take (length room₁ - a) (drop a room₁)) → back a part room₁ ≡ over (p ++ q) room
behind a p q room room₁ part e h k m =
    let long : length room₁ ≡ length room = ap length k ∙ length_over p room (omega arith) in
    part_over a (length room₁ - a) q room₁ part (omega arith) (omega arith) m ∙ rw k (over_behind a p q room e)

-- A copy that the room holds whole.
pub copied_over : {from room room' : List ℕ} → length from ≤ length room → Copied from room room' → room' ≡ over from room
copied_over {from} {room} h k = k.is ∙ ap (λ (p : List ℕ). over p room) (take_all (length room) from h)

-- As many bytes as both have are as many as the room holds.
pub copied_least : {from room room' : List ℕ} {n : ℕ} → n ≡ min (length from) (length room) → Over (take n from) room room' → Copied from room room'
copied_least {from} {room} {n = n} e o = record { is = o.is ∙ ap (λ (p : List ℕ). over p room) (sym (by (dec_le (length room) (length from)))) }
  where
    by : Dec (length room ≤ length from) → take (length room) from ≡ take n from
    by (yes h) = ap (λ (k : ℕ). take k from) (omega arith)
    by (no h) = take_all (length room) from (omega arith) ∙ sym (take_all n from (omega arith))

-- A room that holds just as many bytes.
pub copied_exact : {from room room' : List ℕ} → length from ≡ length room → Copied from room room' → room' ≡ from
unfolding over
copied_exact {from} {room} h k =
    k.is ∙ rw (take_all (length room) from (omega arith)) (rw (drop_all (length from) room (omega arith)) (append-nil from))

-- One store.
pub set_over_at : (room : List ℕ) (i x : ℕ) → i < length room → set room i x ≡ over_at i (x ∷ []) room
unfolding over over_at
set_over_at room i x h = set_split room i x h ∙ ap (λ (r : List ℕ). take i room ++ x ∷ r) (ap (λ (n : ℕ). drop n room) (sym (add-one i)) ∙ sym (drop-drop 1 i room))

pub set_over : (room : List ℕ) (i x : ℕ) → i < length room → set room i x ≡ over (take i room ++ (x ∷ [])) room
unfolding over
set_over room i x h =
    let long : length (take i room ++ (x ∷ [])) ≡ suc i = simp (length-append, length-take) (omega arith) in
    set_split room i x h ∙ rw (long, append_assoc) refl

-- ---- the comparison

pub same_refl : (s : List ℕ) → same_bytes s s ≡ true
unfolding same_bytes
same_refl [] = refl
same_refl (x ∷ xs) = rw (eq-eqb x x refl) (same_refl xs)

pub same_equal : (s t : List ℕ) → same_bytes s t ≡ true → s ≡ t
unfolding same_bytes
same_equal [] [] e = refl
same_equal [] (y ∷ ys) e = never (cc)
same_equal (x ∷ xs) [] e = never (cc)
same_equal (x ∷ xs) (y ∷ ys) e =
    let h = eqb-true x y (both_left (eqb x y) (same_bytes xs ys) e) in
    let t = same_equal xs ys (both_right (eqb x y) (same_bytes xs ys) e) in
    cc

-- Two lists of other lengths differ, and so do two that differ at an index that both have.
pub other_length : (s t : List ℕ) → (length s ≡ length t → ⊥) → same_bytes s t ≡ false
unfolding same_bytes
other_length [] [] h = absurd (h refl)
other_length [] (y ∷ ys) h = refl
other_length (x ∷ xs) [] h = refl
other_length (x ∷ xs) (y ∷ ys) h = both_false (eqb x y) (same_bytes xs ys) (other_length xs ys (λ e. h (ap suc e)))

-- The comparison goes on behind an equal element, and ends at another one.
pub same_step : (s t : List ℕ) (i : ℕ) → i < length s → i < length t → get_or s i 0 ≡ get_or t i 0 → same_bytes (drop i s) (drop i t) ≡ same_bytes (drop (suc i) s) (drop (suc i) t)
unfolding same_bytes
same_step s t i p q e = rw (drop-cons s i 0 p, drop-cons t i 0 q) (rw (eq-eqb (get_or s i 0) (get_or t i 0) e) refl)

pub same_stop : (s t : List ℕ) (i : ℕ) → i < length s → i < length t → (get_or s i 0 ≡ get_or t i 0 → ⊥) → same_bytes (drop i s) (drop i t) ≡ false
unfolding same_bytes
same_stop s t i p q h = rw (drop-cons s i 0 p, drop-cons t i 0 q) (rw (ne_eqb (get_or s i 0) (get_or t i 0) h) refl)

-- The comparison of two lists that are cut at the same place.
pub same_append : (s s' t t' : List ℕ) → length s ≡ length s' → same_bytes (s ++ t) (s' ++ t') ≡ both (same_bytes s s') (same_bytes t t')
unfolding same_bytes
same_append [] [] t t' e = refl
same_append [] (y ∷ ys) t t' e = absurd (omega arith)
same_append (x ∷ xs) [] t t' e = absurd (omega arith)
same_append (x ∷ xs) (y ∷ ys) t t' e = rw (same_append xs ys t t' (omega arith)) (both_assoc (eqb x y) (same_bytes xs ys) (same_bytes t t'))

-- The library's `==` on slices of bytes says the same.
and_both : (a b : Bool) → (a && b) ≡ both a b
and_both true b = refl
and_both false b = refl

pub pointwise_same : (s t : List ℕ) → pointwise eqb s t ≡ same_bytes s t
unfolding same_bytes
pointwise_same [] [] = refl
pointwise_same [] (y ∷ ys) = refl
pointwise_same (x ∷ xs) [] = refl
pointwise_same (x ∷ xs) (y ∷ ys) = and_both (eqb x y) (pointwise eqb xs ys) ∙ ap (both (eqb x y)) (pointwise_same xs ys)

pub compared : {a b : List ℕ} {r : Bool} → r ≡ pointwise eqb a b → Compared a b r
compared {a} {b} e = record { is = e ∙ pointwise_same a b }
