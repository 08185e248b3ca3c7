-- What the reader of a form finds: one law for each `return`, and what its loops keep. Assumes nothing.
use Prim.Native.Nat.{ℕ, zero, suc, ◌+◌, ◌*◌, ◌≤◌, ◌<◌}
use mathlib.Core.Path.{◌≡◌, refl, sym, ap, ◌∙◌}
use mathlib.Core.Bool.{Bool, true, false}
use mathlib.Core.List.{List, [], ◌∷◌}
use native.Mathlib.Numerals.{add-one}
use native.Mathlib.Omega.{arith}
use mir.Val.{bool_byte}
use lib.Dec.{eqb, ltb}
use lib.ListN.{length, get_or, take, drop, set, drop_of_length-le}
use lib.Seq.{drop-cons, drop-drop, get_or-drop}
use borrow.Author.Tests.{lt-ltb, le-ltb}
use Rattle.words.specs.Lists.{pick, both, same_bytes, Compared}
use Rattle.words.proofs.Lists.{other_length, take_over}
use Rattle.std.proofs.lemmas.Grind.{same_number_lists}
use Rattle.words.proofs.Loops.{Filling, filled_none, filled_more, filled_all}
use Rattle.packet.specs.declared.Refusal.TheVariants.{Form}
use Rattle.table.specs.Rows.{parameter_count, rows, supported, row_allows, allowed}
use Rattle.table.specs.Promises.{values_of, changed_of}
use Rattle.table.specs.declared.Table.{Table}
use Rattle.table.specs.declared.TheConstants.{SETTINGS}
use Rattle.std.specs.List.{list_all, zip}
use Rattle.std.specs.Prelude.{Ok, Err}
use Rattle.table.proofs.Finding.{many, place_at, setting_at, setting_row, settings_rows}
use Rattle.table.proofs.Changing.{and_both}
use Rattle.saved.specs.Saved.{edition1, form_of, values_in, locks_in, standing, rows_allow, is_form, read_form}
use Rattle.saved.specs.Promises.{least_size, Loads, Puts, Stands, ValuesIn, LocksIn, ComesNext, Exact, AllAllowed}
use Rattle.saved.proofs.Forms.{one_most, length_values, length_locks_in}
use Rattle.saved.proofs.First.{length_form1}

-- The number of a setting is its row's.
number_row : (i : ℕ) → i < parameter_count → get_or (setting_at i) 0 0 ≡ get_or (get_or rows i []) 0 0
number_row i h = ap (λ (row : List ℕ). get_or row 0 0) (sym (setting_row i))

-- ---- `values_in`

value_at : (table : List (List ℕ)) (bytes : List ℕ) (i : ℕ) → i < length table → get_or (values_in edition1 table bytes) i 0 ≡ get_or bytes (2 * i + 1) 0
unfolding values_in
value_at [] bytes i h = absurd (omega arith)
value_at (row ∷ rest) bytes zero h = refl
value_at (row ∷ rest) bytes (suc i) h =
    let p : 2 + (2 * i + 1) ≡ 2 * suc i + 1 = omega arith in
    value_at rest (drop 2 bytes) i (omega arith) ∙ (get_or-drop 2 bytes (2 * i + 1) 0 ∙ rw p refl)

pub values_taken : {bytes values : List ℕ} → length values ≡ parameter_count → ((i : ℕ) → i < parameter_count → get_or values i 0 ≡ get_or bytes (2 * i + 1) 0) → ValuesIn bytes values
values_taken {bytes} {values} l k =
    let long = length_values edition1 rows bytes in
    let m = many in
    record { is = same_number_lists values (values_in edition1 rows bytes) (omega arith) (λ i h. k i (omega arith) ∙ sym (value_at rows bytes i (omega arith))) }

-- ---- `comes_next` and `locks_in`

take_one : (bytes : List ℕ) (at number : ℕ) → at < length bytes → same_bytes (take 1 (drop at bytes)) (number ∷ []) ≡ both (eqb (get_or bytes at 0) number) true
unfolding same_bytes
take_one bytes at number h = rw (drop-cons bytes at 0 h) refl

both_true : (a : Bool) → both a true ≡ a
both_true true = refl
both_true false = refl

pub next_found : {bytes : List ℕ} {at number : ℕ} → at < length bytes → ComesNext bytes at number (eqb (get_or bytes at 0) number)
next_found {bytes} {at} {number} h = record { is = sym (take_one bytes at number h ∙ both_true (eqb (get_or bytes at 0) number)) }

pub next_none : {bytes : List ℕ} {at number : ℕ} → length bytes ≤ at → ComesNext bytes at number (ltb at (length bytes))
unfolding same_bytes
next_none {bytes} {at} h = record { is = le-ltb at (length bytes) h ∙ sym (rw (drop_of_length-le bytes {i = at} h) refl) }

-- The first i locks are read, and the rest is read from here on.
pub record Unlocking (bytes : List ℕ) (locked : List Bool) (at i : ℕ) : Type 0 where
  pub filling : Filling (locks_in edition1 rows bytes) locked i
  pub few : at ≤ i
  pub rest : drop i (locks_in edition1 rows bytes) ≡ locks_in edition1 (drop i rows) (drop at bytes)

locks_long : (bytes : List ℕ) → length (locks_in edition1 rows bytes) ≡ parameter_count
locks_long bytes = length_locks_in edition1 rows bytes ∙ many

pub unlocking_none : {bytes : List ℕ} {locked : List Bool} → length locked ≡ parameter_count → Unlocking bytes locked 0 0
unlocking_none {bytes} e = record { filling = filled_none (e ∙ sym (locks_long bytes)); few = omega arith; rest = refl }

-- One row further.
step_by : (rest : List (List ℕ)) (bytes : List ℕ) (at : ℕ) (b : Bool) →
    pick b (true ∷ locks_in edition1 rest (drop 1 (drop at bytes))) (false ∷ locks_in edition1 rest (drop at bytes)) ≡ b ∷ locks_in edition1 rest (drop (at + pick b 1 0) bytes)
step_by rest bytes at true = rw (drop-drop 1 at bytes) refl
step_by rest bytes at false = let z : at + 0 ≡ at = omega arith in rw z refl

lock_step : (bytes : List ℕ) (at i : ℕ) (b : Bool) → i < length rows → ComesNext bytes at (get_or (get_or rows i []) 0 0) b →
    locks_in edition1 (drop i rows) (drop at bytes) ≡ b ∷ locks_in edition1 (drop (suc i) rows) (drop (at + pick b 1 0) bytes)
unfolding locks_in
lock_step bytes at i b h k = rw (drop-cons rows i [] h, ← k.is) (step_by (drop (suc i) rows) bytes at b)

at_head : {A : Type 0} (l rest : List A) (i : ℕ) (x d : A) → i < length l → drop i l ≡ x ∷ rest → x ≡ get_or l i d
at_head l rest i x d h e = let k = drop-cons l i d h in cc

at_tail : {A : Type 0} (l rest : List A) (i : ℕ) (x d : A) → i < length l → drop i l ≡ x ∷ rest → drop (suc i) l ≡ rest
at_tail l rest i x d h e = let k = drop-cons l i d h in cc

-- A test as a number.
byte_of : (b : Bool) → bool_byte b ≡ pick b 1 0
byte_of true = refl
byte_of false = refl

pub unlocking_more : {bytes : List ℕ} {locked : List Bool} {at i step : ℕ} {b : Bool} → Unlocking bytes locked at i → i < parameter_count →
    ComesNext bytes at (get_or (setting_at i) 0 0) b → step ≡ bool_byte b → Unlocking bytes (set locked i b) (at + step) (i + 1)
unlocking_more {bytes} {locked} {at} {i} {step} {b} k h n q =
    let p : at + step ≡ at + pick b 1 0 = ap (λ (m : ℕ). at + m) (q ∙ byte_of b) in
    let row = number_row i h in
    let l = locks_long bytes in
    let m = many in
    let o = one_most b in
    let s = k.rest ∙ lock_step bytes at i b (omega arith) (rw row at n) in
    let whole = locks_in edition1 rows bytes in
    let rest = locks_in edition1 (drop (suc i) rows) (drop (at + pick b 1 0) bytes) in
    record {
      filling = filled_more false b k.filling (omega arith) (at_head whole rest i b false (omega arith) s);
      few = omega (arith, k.few, p);
      rest = rw (add-one i, p) (at_tail whole rest i b false (omega arith) s);
    }

pub unlocking_all : {bytes : List ℕ} {locked : List Bool} {at i : ℕ} → Unlocking bytes locked at i → parameter_count ≤ i → LocksIn bytes locked
unlocking_all {bytes} k h = record { is = filled_all k.filling (let l = locks_long bytes in omega arith) }

-- ---- `all_allowed`

-- What a row takes, asked by its number.
pub row_allowed : (i v : ℕ) → i < length rows → allowed (get_or (get_or rows i []) 0 0) v ≡ row_allows (get_or rows i []) v
unfolding allowed supported
row_allowed i v h = rw (place_at i h) (simp (lt-ltb i parameter_count (let m = many in omega arith)))

-- The rows beside the values.
rows_beside : (table : List (List ℕ)) (values : List ℕ) → length table ≤ length values →
    ((k v : ℕ) → k < length table → allowed (get_or (get_or table k []) 0 0) v ≡ row_allows (get_or table k []) v) →
    list_all (λ p. allowed (get_or p.0 0 0) p.1) (zip table values) ≡ rows_allow table values
unfolding rows_allow
rows_beside [] values l k = refl
rows_beside (row ∷ rest) [] l k = absurd (omega arith)
rows_beside (row ∷ rest) (v ∷ vs) l k =
    and_both (allowed (get_or row 0 0) v) (list_all (λ p. allowed (get_or p.0 0 0) p.1) (zip rest vs))
    ∙ rw (k 0 v (omega arith), rows_beside rest vs (omega arith) (λ i w h. k (suc i) w (omega arith))) refl

pub all_judged : {values : List ℕ} {r : Bool} → length values ≡ parameter_count → r ≡ list_all (λ p. allowed (get_or p.0 0 0) p.1) (zip SETTINGS values) → AllAllowed values r
all_judged {values} l e =
    let m = many in
    record {
      is =
          e
          ∙ (ap (λ (table : List (List ℕ)). list_all (λ p. allowed (get_or p.0 0 0) p.1) (zip table values)) settings_rows
          ∙ rows_beside rows values (omega arith) row_allowed);
    }

-- ---- `exact` and `load`

module _ {t : Table} {form again again' : List ℕ} {count : ℕ} {r : Bool} (p : Puts t again count again') (c : Compared form (take count again') r) where
  again_is : take count again' ≡ form_of edition1 (values_of t)
  again_is = rw p.room_is (take_over (form_of edition1 (values_of t)) again count p.is)

  pub exact_other : r ≡ false → Exact t form r
  exact_other e = record { is = e ∙ sym (rw (← again_is, ← c.is, e) refl) }

  pub exact_same : {r' : Bool} → r ≡ true → AllAllowed t.permanent r' → Exact t form r'
  exact_same e a = record { is = a.is ∙ sym (rw (← again_is, ← c.is, e) refl) }

-- Where the locks stand, in numbers.
locks_place : (form : List ℕ) → drop (3 + length rows * 2) form ≡ drop least_size form
locks_place form = rw many refl

pub stands : {form : List ℕ} {values : List ℕ} {locked : List Bool} → ValuesIn (drop 2 form) values → LocksIn (drop least_size form) locked →
    Stands form (record { present = values; permanent = values; locked = locked })
unfolding standing
stands {form} v l = record { is = rw (v.is, l.is) (rw (locks_place form) refl) }

-- A table that stands in a form.
standing_form : (form : List ℕ) (t : Table) → Stands form t → values_of t ≡ standing edition1 form
unfolding standing
standing_form form t s = rw s.is refl

module _ {set : Table} {form : List ℕ} {r : Bool} (s : Stands form set) (e : Exact set form r) where
  judged : r ≡ is_form edition1 form
  unfolding is_form
  judged = e.is ∙ rw (standing_form form set s, s.is) refl

  pub load_exact : r ≡ true → Loads form (Ok set)
  unfolding read_form changed_of
  load_exact y = record { is = rw (sym judged ∙ y) (rw s.is refl) }

  pub load_other : r ≡ false → Loads form (Err Form)
  unfolding read_form changed_of
  load_other n = record { is = rw (sym judged ∙ n) refl }

pub load_short : {form : List ℕ} → length form < least_size → Loads form (Err Form)
unfolding read_form changed_of is_form
load_short {form} h =
    let l = length_form1 (standing edition1 form) in
    record { is = simp (other_length form (form_of edition1 (standing edition1 form)) (λ e. omega arith)) }
