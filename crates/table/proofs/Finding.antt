-- Where a parameter stands among the rows, what it takes, and its value: one law for each `return`, and what the loops over the rows keep.
-- Assumes nothing.
use Prim.Native.Nat.{ℕ, zero, suc, ◌+◌, ◌≤◌, ◌<◌}
use mathlib.Core.Path.{◌≡◌, refl, sym, ap, subst, ◌∙◌}
use mathlib.Core.Bool.{Bool, true, false}
use mathlib.Core.List.{List, [], ◌∷◌}
use native.Mathlib.Nat.{zero-add}
use native.Mathlib.Omega.{arith}
use lib.Dec.{eqb, ltb, leb}
use lib.ListN.{length, get_or, drop, replicate, get_or-eq_default}
use lib.Seq.{get_or-drop}
use borrow.Author.Tests.{eq-eqb, ne_eqb, le-leb, lt-leb, eqb-true, ltb-true, ltb-false}
use Rattle.words.specs.Lists.{pick, both, either}
use Rattle.words.proofs.Lists.{both_left, both_right}
use Rattle.table.specs.Rows.{parameter_count, rows, place_in, place_of, supported, trigger_allowed, range_allowed, row_allows, allowed, defaults_of}
use Rattle.std.specs.Prelude.{cond, not, Option, Some, None, IfSome}
use Rattle.std.proofs.lemmas.Grind.{same_number_lists}
use Rattle.std.specs.Fn.{Called}
use Rattle.std.specs.Array.{IsFromFnResultFrom}
use denote.Param.Members.{Mut}
use Rattle.std.proofs.lemmas.Bool.{cases_lt}
use mathlib.Core.Logic.{◌⊎◌, inl, inr}
use Rattle.std.specs.List.{position, position_or_len}
use Rattle.table.specs.declared.TheConstants.{SETTINGS}
use Rattle.table.specs.Promises.{Place, Restores, TriggerAllowed, Takes, Allowed, Value, Locked}
use Rattle.table.specs.Table.{locked_in, restored, value_of}
use Rattle.table.specs.declared.Table.{Table}

pub one_more : (i : ℕ) → 1 + i ≡ suc i
one_more i = omega arith

-- A row for each parameter.
pub many : length rows ≡ parameter_count
unfolding rows
many = refl

-- ---- the settings and the rows

-- The constant and the rows of the rules say the same.
pub settings_rows : SETTINGS ≡ rows
unfolding rows
settings_rows = refl

pub settings_many : length SETTINGS ≡ parameter_count
settings_many = ap length settings_rows ∙ many

-- The row at a place.
abbrev pub setting_at : ℕ → List ℕ
setting_at i = get_or SETTINGS i []

pub setting_row : (i : ℕ) → get_or rows i [] ≡ setting_at i
setting_row i = ap (λ (table : List (List ℕ)). get_or table i []) (sym settings_rows)

-- ---- `place`

first_by : (d : Bool) (n m : ℕ) → n ≡ m → cond (not d) (1 + n) 0 ≡ pick d 0 (suc m)
first_by true n m e = refl
first_by false n m e = omega arith

-- The first setting that has the number stands where the rows have it.
pub first_place : (settings : List (List ℕ)) (number : ℕ) → position_or_len (λ s. eqb (get_or s 0 0) number) settings ≡ place_in settings number
unfolding place_in
first_place [] number = refl
first_place (s ∷ rest) number =
    first_by (eqb (get_or s 0 0) number) (position_or_len (λ s. eqb (get_or s 0 0) number) rest) (place_in rest number) (first_place rest number)

position_place : (settings : List (List ℕ)) (number : ℕ) →
    position (λ s. eqb (get_or s 0 0) number) settings
    ≡ pick (ltb (place_in settings number) (length settings)) (Some (place_in settings number)) None
position_place settings number = rw (first_place settings number) refl

found_by : (d : Bool) (n at : ℕ) → Some at ≡ pick d (Some n) None → (d ≡ true) × (at ≡ n)
found_by true n at e = (refl, cc)
found_by false n at e = absurd (cc)

none_by : (d : Bool) (n : ℕ) → None ≡ pick d (Some n) None → d ≡ false
none_by true n e = absurd (cc)
none_by false n e = refl

-- What is found is supported, and stands at its place.
module _ {number at : ℕ} (p : Place number (Some at)) where
  pub found_supported : supported number ≡ true
  found_supported = (found_by (supported number) (place_of number) at p.is).0

  pub found_at : at ≡ place_of number
  found_at = (found_by (supported number) (place_of number) at p.is).1

pub not_found : {number : ℕ} → Place number None → supported number ≡ false
not_found {number} p = none_by (supported number) (place_of number) p.is

pub place_most : (number : ℕ) → supported number ≡ true → place_of number < parameter_count
unfolding supported
place_most number s = ltb-true (place_of number) parameter_count s

inside_by : (d : Bool) (n : ℕ) → (d ≡ true → n < parameter_count) → IfSome (pick d (Some n) None) (λ at. at < parameter_count)
inside_by true n k = k refl
inside_by false n k = tt

place_is : (number : ℕ) → position (λ s. eqb (get_or s 0 0) number) SETTINGS ≡ pick (supported number) (Some (place_of number)) None
unfolding supported
place_is number =
    subst (λ (table : List (List ℕ)). position (λ s. eqb (get_or s 0 0) number) SETTINGS ≡ pick (ltb (place_in table number) 9) (Some (place_in table number)) None) settings_rows
    (position_place SETTINGS number)

pub placed : {number : ℕ} {r : Option ℕ} → r ≡ position (λ s. eqb (get_or s 0 0) number) SETTINGS → Place number r
placed {number} {r} e =
    let f = e ∙ place_is number in
    record { is = f; inside = subst (λ (o : Option ℕ). IfSome o (λ at. at < parameter_count)) (sym f) (inside_by (supported number) (place_of number) (place_most number)) }

-- ---- a row's number and its place

-- A parameter that has a row is that row's number.
number_by : (row : List ℕ) (rest : List (List ℕ)) (number : ℕ) → (place_in rest number < length rest → get_or (get_or rest (place_in rest number) []) 0 0 ≡ number) →
    (d : Bool) → eqb (get_or row 0 0) number ≡ d → pick d 0 (suc (place_in rest number)) < suc (length rest) →
    get_or (get_or (row ∷ rest) (pick d 0 (suc (place_in rest number))) []) 0 0 ≡ number
number_by row rest number k true e h = eqb-true (get_or row 0 0) number e
number_by row rest number k false e h = k (omega arith)

pub number_at : (table : List (List ℕ)) (number : ℕ) → place_in table number < length table → get_or (get_or table (place_in table number) []) 0 0 ≡ number
unfolding place_in
number_at [] number h = absurd (omega arith)
number_at (row ∷ rest) number h = number_by row rest number (number_at rest number) (eqb (get_or row 0 0) number) refl h

-- Each row stands where its number is found: a test that antt computes over the whole table, and the rule that it gives.
unfoldable placed_test : List (List ℕ) → ℕ → List (List ℕ) → Bool
placed_test table i [] = true
placed_test table i (row ∷ rest) = both (eqb (place_in table (get_or row 0 0)) i) (placed_test table (suc i) rest)

placed_from : (table rest : List (List ℕ)) (i : ℕ) → placed_test table i rest ≡ true → (k : ℕ) → k < length rest → place_in table (get_or (get_or rest k []) 0 0) ≡ i + k
unfolding placed_test
placed_from table [] i t k h = absurd (omega arith)
placed_from table (row ∷ rest) i t zero h =
    let e = eqb-true (place_in table (get_or row 0 0)) i (both_left (eqb (place_in table (get_or row 0 0)) i) (placed_test table (suc i) rest) t) in omega arith
placed_from table (row ∷ rest) i t (suc k) h =
    let e = placed_from table rest (suc i) (both_right (eqb (place_in table (get_or row 0 0)) i) (placed_test table (suc i) rest) t) k (omega arith) in omega arith

all_placed : placed_test rows 0 rows ≡ true
unfolding placed_test place_in rows
all_placed = refl

pub place_at : (i : ℕ) → i < length rows → place_of (get_or (get_or rows i []) 0 0) ≡ i
place_at i h = placed_from rows rows 0 all_placed i h ∙ zero-add i

-- Two parameters with one row are one.
pub same_place : (m n : ℕ) → place_of m < parameter_count → place_of m ≡ place_of n → m ≡ n
same_place m n h e = sym (number_at rows m (omega (arith, many))) ∙ (rw e (number_at rows n (omega (arith, many))))

-- ---- `restored`

pub length_defaults : (table : List (List ℕ)) → length (defaults_of table) ≡ length table
unfolding defaults_of
length_defaults [] = refl
length_defaults (row ∷ rest) = ap suc (length_defaults rest)

default_at : (table : List (List ℕ)) (i : ℕ) → i < length table → get_or (defaults_of table) i 0 ≡ get_or (get_or table i []) 3 0
unfolding defaults_of
default_at [] i h = absurd (omega arith)
default_at (row ∷ rest) zero h = refl
default_at (row ∷ rest) (suc i) h = default_at rest i (omega arith)

pub length_restored : (locked : List Bool) (values ds : List ℕ) → length (restored locked values ds) ≡ length ds
unfolding restored
length_restored locked values [] = refl
length_restored locked values (d ∷ ds) = ap suc (length_restored (drop 1 locked) (drop 1 values) ds)

pub restored_at : (locked : List Bool) (values ds : List ℕ) (i : ℕ) → i < length ds →
    get_or (restored locked values ds) i 0 ≡ pick (get_or locked i false) (get_or values i 0) (get_or ds i 0)
unfolding restored
restored_at locked values [] i h = absurd (omega arith)
restored_at locked values (d ∷ ds) zero h = refl
restored_at locked values (d ∷ ds) (suc i) h =
    restored_at (drop 1 locked) (drop 1 values) ds i (omega arith)
    ∙ rw (get_or-drop 1 locked i false, get_or-drop 1 values i 0, one_more i) refl

-- With nothing locked the defaults are left.
pub restored_none : (n : ℕ) (values ds : List ℕ) → restored (replicate n false) values ds ≡ ds
unfolding restored
restored_none n values [] = refl
restored_none zero values (d ∷ ds) = ap (λ (r : List ℕ). d ∷ r) (restored_none zero (drop 1 values) ds)
restored_none (suc n) values (d ∷ ds) = ap (λ (r : List ℕ). d ∷ r) (restored_none n (drop 1 values) ds)

-- What `array::from_fn` makes of a closure that keeps its captures, place by place.
pub made_from : {F : Type 0} (g : Mut F (ℕ × Unit {0}) ℕ) (f : F) (ys : List ℕ) (v : ℕ → ℕ) (n i : ℕ) →
    ((k y : ℕ) (q : F) → Called g f (k, tt) y q → (q ≡ f) × (y ≡ v k)) → IsFromFnResultFrom g f ys i n → (k : ℕ) → i ≤ k → k < i + n → get_or ys k 0 ≡ v k
made_from g f ys v zero i says made k a b = absurd (omega arith)
made_from g f ys v (suc n) i says made k a b =
    let s = says i made.1 made.0 made.3 in
    elim (cases_lt i k) [ inl h ↦ made_from g f ys v n (i + 1) says (subst (λ q. IsFromFnResultFrom g q ys (i + 1) n) s.0 made.4) k (omega arith) (omega arith) | inr h ↦ let e : k ≡ i = omega arith in rw e (made.2.1 0 ∙ s.1) ]

-- What is restored, place by place.
pub restored_all : {locked : List Bool} {values next : List ℕ} → length next ≡ parameter_count →
    ((i : ℕ) → i < parameter_count → get_or next i 0 ≡ pick (get_or locked i false) (get_or values i 0) (get_or (setting_at i) 3 0)) → Restores locked values next
restored_all {locked} {values} {next} l k =
    let m = many in
    let long = length_restored locked values (defaults_of rows) ∙ (length_defaults rows ∙ many) in
    record {
      is =
          same_number_lists next (restored locked values (defaults_of rows)) (omega arith)
          (λ i h.
          k i (omega arith)
          ∙ sym (restored_at locked values (defaults_of rows) i (let z = length_defaults rows in omega arith)
          ∙ rw (default_at rows i (omega arith), setting_row i) refl));
    }

-- ---- `trigger_allowed`, `takes` and `allowed`

takes_row : (s : List ℕ) (value : ℕ) → row_allows s value ≡ both (both (leb (get_or s 1 0) value) (leb value (get_or s 2 0))) (either (not (eqb (get_or s 0 0) 0x8A)) (trigger_allowed value))
unfolding row_allows range_allowed
takes_row s value = refl

pub takes_outside : {s : List ℕ} {value : ℕ} → (value < (get_or s 1 0)) ⊎ (((get_or s 1 0) ≤ value) × ((get_or s 2 0) < value)) → Takes s value false
takes_outside {s} {value} (inl h) = record { is = sym (takes_row s value ∙ simp (lt-leb (get_or s 1 0) value h)) }
takes_outside {s} {value} (inr h) = record { is = sym (takes_row s value ∙ simp (le-leb (get_or s 1 0) value h.0, lt-leb value (get_or s 2 0) h.1)) }

module _ {s : List ℕ} {value : ℕ} (l : (get_or s 1 0) ≤ value) (h : value ≤ (get_or s 2 0)) where
  pub takes_other : ((get_or s 0 0) ≡ 0x8A → ⊥) → Takes s value (not (eqb (get_or s 0 0) 0x8A))
  takes_other d = record { is = sym (takes_row s value ∙ simp (le-leb (get_or s 1 0) value l, le-leb value (get_or s 2 0) h, ne_eqb (get_or s 0 0) 0x8A d)) }

  pub takes_trigger : {r : Bool} → (get_or s 0 0) ≡ 0x8A → TriggerAllowed value r → Takes s value r
  takes_trigger e t = record { is = t.is ∙ sym (takes_row s value ∙ simp (le-leb (get_or s 1 0) value l, le-leb value (get_or s 2 0) h, eq-eqb (get_or s 0 0) 0x8A e)) }

pub allowed_unknown : {number value : ℕ} → Place number None → Allowed number value false
unfolding allowed
allowed_unknown p = record { is = simp (not_found p) }

pub allowed_row : {number value at : ℕ} {r : Bool} → Place number (Some at) → Takes (setting_at at) value r → Allowed number value r
unfolding allowed
allowed_row {number} {value} {at} p a =
    record { is = a.is ∙ rw (← setting_row at, found_at p) (simp (found_supported p)) }

-- ---- `value`

pub value_found : {t : Table} {number at : ℕ} → Place number (Some at) → Value t number (get_or t.present at 0)
unfolding value_of
value_found {t} p = record { is = ap (λ (i : ℕ). get_or t.present i 0) (found_at p) }

-- A parameter that is not found stands behind the last.
pub not_placed : (number : ℕ) → supported number ≡ false → parameter_count ≤ place_of number
unfolding supported
not_placed number e = ltb-false (place_of number) parameter_count e

pub value_none : {t : Table} {number : ℕ} → Place number None → length t.present ≡ parameter_count → Value t number 0
unfolding value_of
value_none {t} {number} p l = record { is = sym (get_or-eq_default t.present 0 (let z = not_placed number (not_found p) in omega arith)) }

-- ---- `locked`

pub locked_found : {t : Table} {number at : ℕ} → Place number (Some at) → Locked t number (get_or t.locked at false)
unfolding locked_in
locked_found {t} p = record { is = ap (λ (i : ℕ). get_or t.locked i false) (found_at p) }

pub locked_none : {t : Table} {number : ℕ} → Place number None → length t.locked ≡ parameter_count → Locked t number false
unfolding locked_in
locked_none {t} {number} p l = record { is = sym (get_or-eq_default t.locked false (let z = not_placed number (not_found p) in omega arith)) }
