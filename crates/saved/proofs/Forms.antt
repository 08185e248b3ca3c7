-- The laws of a form over any edition: how long its parts are, one row more, and that what is written stands where it is read. Assumes nothing.
use Prim.Native.Nat.{ℕ, suc, ◌+◌, ◌*◌, ◌≤◌, ◌<◌}
use mathlib.Core.Path.{◌≡◌, refl, sym, ap}
use mathlib.Core.Bool.{Bool, true, false, not}
use mathlib.Core.List.{List, [], ◌∷◌, ◌++◌, append_assoc, append-nil}
use native.Mathlib.Nat.{suc-mul, zero-mul}
use native.Mathlib.Omega.{arith}
use lib.Dec.{eqb}
use lib.ListN.{length, get_or, take, drop, length-append}
use lib.Seq.{take-nil, get_or-drop, drop-drop, get_or-append_seam, take_at, drop_at, drop-append-add}
use borrow.Author.Tests.{not-true, eqb-false}
use Rattle.words.specs.Lists.{pick, same_bytes}
use Rattle.words.proofs.Lists.{both_left, both_right, same_refl, same_equal}
use Rattle.table.specs.Table.{Values, power_up, member, numbers_of}
use Rattle.table.proofs.Finding.{one_more}
use Rattle.table.proofs.Theorems.{either_left, either_right, distinct}
use Rattle.saved.specs.Saved.{Edition, pairs_of, locks_of, lock_count, form_of, values_in, locks_in, locks_at, standing}

-- What an edition owes: a number takes as many bytes as it says, at least one; no two numbers are written alike, and no two rows have the same.
pub record Lawful (e : Edition) : Type 0 where
  pub wide : (n : ℕ) → length (e.written n) ≡ e.width
  pub some : 0 < e.width
  pub apart : (m n : ℕ) → e.written m ≡ e.written n → m ≡ n
  pub once : distinct (numbers_of e.rows) ≡ true

-- A table with a value and a lock for each row.
pub record Full (e : Edition) (t : Values) : Type 0 where
  pub values : length t.permanent ≡ length e.rows
  pub locks : length t.locked ≡ length e.rows

-- ---- one row more

module _ (e : Edition) where
  pub pairs_snoc : (table : List (List ℕ)) (row values : List ℕ) →
      pairs_of e (table ++ (row ∷ [])) values ≡ pairs_of e table values ++ (e.written (get_or row 0 0) ++ (get_or values (length table) 0 ∷ []))
  unfolding pairs_of
  pairs_snoc [] row values = refl
  pairs_snoc (r ∷ rest) row values =
      rw (pairs_snoc rest row (drop 1 values), get_or-drop 1 values (length rest) 0, one_more (length rest), append_assoc) refl

  pub locks_snoc : (table : List (List ℕ)) (row : List ℕ) (locked : List Bool) →
      locks_of e (table ++ (row ∷ [])) locked ≡ locks_of e table locked ++ pick (get_or locked (length table) false) (e.written (get_or row 0 0)) []
  unfolding locks_of
  locks_snoc [] row locked = append-nil (pick (get_or locked 0 false) (e.written (get_or row 0 0)) [])
  locks_snoc (r ∷ rest) row locked =
      rw (locks_snoc rest row (drop 1 locked), get_or-drop 1 locked (length rest) false, one_more (length rest), append_assoc) refl

pub count_snoc : (table : List (List ℕ)) (row : List ℕ) (locked : List Bool) →
    lock_count (table ++ (row ∷ [])) locked ≡ lock_count table locked + pick (get_or locked (length table) false) 1 0
unfolding lock_count
count_snoc [] row locked = omega arith
count_snoc (r ∷ rest) row locked =
    let k = rw (get_or-drop 1 locked (length rest) false, one_more (length rest)) at (count_snoc rest row (drop 1 locked)) in
    omega arith

pub one_most : (b : Bool) → pick b 1 0 ≤ 1
one_most true = omega arith
one_most false = omega arith

pub count_most : (table : List (List ℕ)) (locked : List Bool) → lock_count table locked ≤ length table
unfolding lock_count
count_most [] locked = omega arith
count_most (row ∷ rest) locked =
    let k = count_most rest (drop 1 locked) in
    let o = one_most (get_or locked 0 false) in
    omega arith

-- ---- how long the parts are

pub length_values : (e : Edition) (table : List (List ℕ)) (bytes : List ℕ) → length (values_in e table bytes) ≡ length table
unfolding values_in
length_values e [] bytes = refl
length_values e (row ∷ rest) bytes = ap suc (length_values e rest (drop (suc e.width) bytes))

length_by : (e : Edition) (rest : List (List ℕ)) (row bytes : List ℕ) (d : Bool) →
    ((b : List ℕ) → length (locks_in e rest b) ≡ length rest) →
    length (pick d (true ∷ locks_in e rest (drop e.width bytes)) (false ∷ locks_in e rest bytes)) ≡ suc (length rest)
length_by e rest row bytes true k = ap suc (k (drop e.width bytes))
length_by e rest row bytes false k = ap suc (k bytes)

pub length_locks_in : (e : Edition) (table : List (List ℕ)) (bytes : List ℕ) → length (locks_in e table bytes) ≡ length table
unfolding locks_in
length_locks_in e [] bytes = refl
length_locks_in e (row ∷ rest) bytes =
    length_by e rest row bytes (same_bytes (take e.width bytes) (e.written (get_or row 0 0))) (λ b. length_locks_in e rest b)

module _ {e : Edition} (l : Lawful e) where
  pub length_pairs : (table : List (List ℕ)) (values : List ℕ) → length (pairs_of e table values) ≡ length table * suc e.width
  unfolding pairs_of
  length_pairs [] values = sym (zero-mul (suc e.width))
  length_pairs (row ∷ rest) values =
      let k = length_pairs rest (drop 1 values) in
      let w = l.wide (get_or row 0 0) in
      rw (length-append (e.written (get_or row 0 0)) (get_or values 0 0 ∷ pairs_of e rest (drop 1 values)), suc-mul (length rest) (suc e.width)) (omega arith)

  lock_by : (row : List ℕ) (b : Bool) (c : ℕ) → length (pick b (e.written (get_or row 0 0)) []) + c * e.width ≡ (pick b 1 0 + c) * e.width
  lock_by row true c = rw (one_more c, suc-mul c e.width) (let w = l.wide (get_or row 0 0) in omega arith)
  lock_by row false c = rw (none_more c) (omega arith) where
    none_more : (c : ℕ) → 0 + c ≡ c
    none_more c = omega arith

  pub length_locks : (table : List (List ℕ)) (locked : List Bool) → length (locks_of e table locked) ≡ lock_count table locked * e.width
  unfolding locks_of lock_count
  length_locks [] locked = sym (zero-mul e.width)
  length_locks (row ∷ rest) locked =
      rw (length-append (pick (get_or locked 0 false) (e.written (get_or row 0 0)) []) (locks_of e rest (drop 1 locked)), length_locks rest (drop 1 locked))
      (lock_by row (get_or locked 0 false) (lock_count rest (drop 1 locked)))

  -- How long a form is.
  pub length_form : (t : Values) → length (form_of e t) ≡ 3 + length e.rows * suc e.width + lock_count e.rows t.locked * e.width
  unfolding form_of
  length_form t =
      let p = length_pairs e.rows t.permanent in
      let k = length_locks e.rows t.locked in
      let a = length-append (pairs_of e e.rows t.permanent) (lock_count e.rows t.locked ∷ locks_of e e.rows t.locked) in
      omega arith

  -- ---- what is written stands where it is read

  value_back : (row : List ℕ) (v : ℕ) (rest : List ℕ) → get_or (e.written (get_or row 0 0) ++ (v ∷ rest)) e.width 0 ≡ v
  value_back row v rest = rw (← l.wide (get_or row 0 0)) (get_or-append_seam (e.written (get_or row 0 0)) v rest 0)

  behind_value : (row : List ℕ) (v : ℕ) (rest : List ℕ) → drop (suc e.width) (e.written (get_or row 0 0) ++ (v ∷ rest)) ≡ rest
  behind_value row v rest =
      let s : suc e.width ≡ length (e.written (get_or row 0 0)) + 1 = let w = l.wide (get_or row 0 0) in omega arith in
      rw (s, drop-append-add (e.written (get_or row 0 0)) (v ∷ rest) 1) refl

  pub values_back : (table : List (List ℕ)) (values rest : List ℕ) → length values ≡ length table → values_in e table (pairs_of e table values ++ rest) ≡ values
  unfolding values_in pairs_of
  values_back [] [] rest k = refl
  values_back [] (v ∷ vs) rest k = absurd (omega arith)
  values_back (row ∷ table) [] rest k = absurd (omega arith)
  values_back (row ∷ table) (v ∷ vs) rest k =
      let s = append_assoc (e.written (get_or row 0 0)) (v ∷ pairs_of e table vs) rest in
      rw (s, value_back row v (pairs_of e table vs ++ rest), behind_value row v (pairs_of e table vs ++ rest), values_back table vs rest (omega arith)) refl

  -- The bytes of a number come next only if it is locked: those of any other row are written otherwise.
  other_number : (m n : ℕ) → (m ≡ n → ⊥) → (d : Bool) → same_bytes (e.written m) (e.written n) ≡ d → d ≡ false
  other_number m n k true s = absurd (k (l.apart m n (same_equal (e.written m) (e.written n) s)))
  other_number m n k false s = refl

  none_next : (n : ℕ) (d : Bool) → same_bytes [] (e.written n) ≡ d → d ≡ false
  none_next n true s =
      let w = l.wide n in
      let z : length (e.written n) ≡ 0 = ap length (sym (same_equal [] (e.written n) s)) in
      absurd (omega (arith, l.some))
  none_next n false s = refl

  not_next_by : (row : List ℕ) (rest : List ℕ) (n : ℕ) → (get_or row 0 0 ≡ n → ⊥) → same_bytes (take e.width rest) (e.written n) ≡ false → (d : Bool) →
      same_bytes (take e.width (pick d (e.written (get_or row 0 0)) [] ++ rest)) (e.written n) ≡ false
  not_next_by row rest n k m true =
      rw (take_at (e.written (get_or row 0 0)) rest e.width (l.wide (get_or row 0 0)))
      (other_number (get_or row 0 0) n k (same_bytes (e.written (get_or row 0 0)) (e.written n)) refl)
  not_next_by row rest n k m false = m

  not_next : (table : List (List ℕ)) (locked : List Bool) (n : ℕ) → member n (numbers_of table) ≡ false →
      same_bytes (take e.width (locks_of e table locked)) (e.written n) ≡ false
  unfolding locks_of numbers_of member
  not_next [] locked n k = rw (take-nil {A = ℕ} e.width) (none_next n (same_bytes [] (e.written n)) refl)
  not_next (row ∷ table) locked n k =
      not_next_by row (locks_of e table (drop 1 locked)) n (eqb-false (get_or row 0 0) n (either_left (eqb (get_or row 0 0) n) (member n (numbers_of table)) k))
      (not_next table (drop 1 locked) n (either_right (eqb (get_or row 0 0) n) (member n (numbers_of table)) k))
      (get_or locked 0 false)

  locks_by : (row : List ℕ) (table : List (List ℕ)) (ls : List Bool) → locks_in e table (locks_of e table ls) ≡ ls → member (get_or row 0 0) (numbers_of table) ≡ false → (b : Bool) →
      locks_in e (row ∷ table) (pick b (e.written (get_or row 0 0)) [] ++ locks_of e table ls) ≡ b ∷ ls
  unfolding locks_in
  locks_by row table ls k m true =
      let n = get_or row 0 0 in
      let w = l.wide n in
      rw (take_at (e.written n) (locks_of e table ls) e.width w, drop_at (e.written n) (locks_of e table ls) e.width w, same_refl (e.written n), k) refl
  locks_by row table ls k m false = rw (not_next table ls (get_or row 0 0) m, k) refl

  nothing_in : locks_in e [] [] ≡ []
  unfolding locks_in
  nothing_in = refl

  pub locks_back : (table : List (List ℕ)) (locked : List Bool) → distinct (numbers_of table) ≡ true → length locked ≡ length table → locks_in e table (locks_of e table locked) ≡ locked
  unfolding locks_of distinct numbers_of
  locks_back [] [] d k = nothing_in
  locks_back [] (b ∷ bs) d k = absurd (omega arith)
  locks_back (row ∷ table) [] d k = absurd (omega arith)
  locks_back (row ∷ table) (b ∷ bs) d k =
      let new = not-true (member (get_or row 0 0) (numbers_of table)) (both_left (not (member (get_or row 0 0) (numbers_of table))) (distinct (numbers_of table)) d) in
      let rest = both_right (not (member (get_or row 0 0) (numbers_of table))) (distinct (numbers_of table)) d in
      locks_by row table bs (locks_back table bs rest (omega arith)) new b

  behind_pairs : (t : Values) → drop (locks_at e) (form_of e t) ≡ locks_of e e.rows t.locked
  unfolding form_of
  behind_pairs t =
      let p = length_pairs e.rows t.permanent in
      let ps = pairs_of e e.rows t.permanent in
      let s : locks_at e ≡ 2 + (length ps + 1) = omega arith in
      rw (s, ← drop-drop (length ps + 1) 2 (form_of e t), drop-append-add ps (lock_count e.rows t.locked ∷ locks_of e e.rows t.locked) 1) refl

  front_pairs : (t : Values) → Full e t → values_in e e.rows (drop 2 (form_of e t)) ≡ t.permanent
  unfolding form_of
  front_pairs t f = values_back e.rows t.permanent (lock_count e.rows t.locked ∷ locks_of e e.rows t.locked) f.values

  -- What is written is read back: the same permanent values and locks, and the present values are the permanent ones.
  pub standing_back : (t : Values) → Full e t → standing e (form_of e t) ≡ power_up t
  unfolding standing power_up
  standing_back t f =
      rw (behind_pairs t, locks_back e.rows t.locked l.once f.locks, front_pairs t f) refl
