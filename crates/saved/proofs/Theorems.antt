-- The theorems over a saved set: each set has one form and each form at most one set; what is taken has only allowed values. Those that
-- hold of every edition are said of every one. Assumes nothing.
use Prim.Native.Nat.{ℕ, zero, suc, ◌<◌}
use mathlib.Core.Path.{◌≡◌, refl, sym, ap, ◌∙◌}
use mathlib.Core.Bool.{Bool, true, false}
use mathlib.Core.List.{List, [], ◌∷◌}
use native.Mathlib.Omega.{arith}
use lib.ListN.{length, get_or, drop}
use lib.Seq.{get_or-drop}
use Rattle.words.specs.Lists.{pick, same_bytes}
use Rattle.words.proofs.Lists.{both_left, both_right, same_refl, same_equal, never}
use Rattle.packet.specs.declared.Refusal.{Refusal}
use Rattle.packet.specs.declared.Refusal.TheVariants.{Form}
use Rattle.table.specs.Rows.{parameter_count, rows, row_allows}
use Rattle.table.specs.Table.{Values, done, refused, defaults, power_up}
use Rattle.table.proofs.Finding.{many, one_more}
use Rattle.table.proofs.Theorems.{AllAllowedIn, AllAllowed, house_allowed, Reached, reached_allowed}
use Rattle.saved.specs.Saved.{Edition, edition1, form_of, standing, rows_allow, is_form, read_form}
use Rattle.saved.proofs.Forms.{Lawful, Full, length_values, length_locks_in, standing_back}
use Rattle.saved.proofs.First.{lawful1}
use Rattle.saved.proofs.Reading.{row_allowed}

-- ---- every edition

-- A table that some bytes are the form of.
pub record Saved (e : Edition) (bytes : List ℕ) (t : Values) : Type 0 where
  pub full : Full e t
  pub allowed : rows_allow e.rows t.permanent ≡ true
  pub form_is : form_of e t ≡ bytes

taken_by : (e : Edition) (bytes : List ℕ) (t : Values) (d : Bool) → is_form e bytes ≡ d → pick d (done (standing e bytes)) (refused Form) ≡ done t → (t ≡ standing e bytes) × (is_form e bytes ≡ true)
taken_by e bytes t true i q = let z : standing e bytes ≡ t = cc in (sym z, i)
taken_by e bytes t false i q = never (cc)

taken : (e : Edition) (bytes : List ℕ) (t : Values) → read_form e bytes ≡ done t → (t ≡ standing e bytes) × (is_form e bytes ≡ true)
unfolding read_form
taken e bytes t q = taken_by e bytes t (is_form e bytes) refl q

standing_full : (e : Edition) (bytes : List ℕ) → Full e (standing e bytes)
unfolding standing
standing_full e bytes = record { values = length_values e e.rows (drop 2 bytes); locks = length_locks_in e e.rows _ }

standing_present : (e : Edition) (bytes : List ℕ) → power_up (standing e bytes) ≡ standing e bytes
unfolding standing power_up
standing_present e bytes = refl

-- What is read is written as the same bytes, has a value and a lock for each row, and every value is allowed.
pub read_saved : (e : Edition) (bytes : List ℕ) (t : Values) → read_form e bytes ≡ done t → Saved e bytes t
unfolding is_form
read_saved e bytes t q =
    let k = taken e bytes t q in
    let s = same_bytes bytes (form_of e (standing e bytes)) in
    let a = rows_allow e.rows (standing e bytes).permanent in
    rw k.0
    (record {
      full = standing_full e bytes;
      allowed = both_right s a k.1;
      form_is = sym (same_equal bytes (form_of e (standing e bytes)) (both_left s a k.1));
    })

-- Its present values are the permanent ones.
pub read_present : (e : Edition) (bytes : List ℕ) (t : Values) → read_form e bytes ≡ done t → power_up t ≡ t
read_present e bytes t q = rw (taken e bytes t q).0 (standing_present e bytes)

form_allowed : (e : Edition) (t : Values) → rows_allow e.rows (power_up t).permanent ≡ rows_allow e.rows t.permanent
unfolding power_up
form_allowed e t = refl

form_same : (e : Edition) (t : Values) → form_of e (power_up t) ≡ form_of e t
unfolding power_up form_of
form_same e t = refl

-- What is written is read back as the same values and locks: the table after a power-up.
pub written_read : {e : Edition} → Lawful e → (t : Values) → Full e t → rows_allow e.rows t.permanent ≡ true → read_form e (form_of e t) ≡ done (power_up t)
unfolding read_form is_form
written_read {e} l t f a =
    rw (standing_back l t f, form_same e t, same_refl (form_of e t), form_allowed e t, a) refl

-- Without that last condition it is not: what is written with a value that is not allowed is refused.
pub unallowed_refused : {e : Edition} → Lawful e → (t : Values) → Full e t → rows_allow e.rows t.permanent ≡ false → read_form e (form_of e t) ≡ refused Form
unfolding read_form is_form
unallowed_refused {e} l t f a =
    rw (standing_back l t f, form_same e t, same_refl (form_of e t), form_allowed e t, a) refl

-- Two sets with one form are one.
pub one_set : {e : Edition} → Lawful e → (s t : Values) → Full e s → Full e t → form_of e s ≡ form_of e t → power_up s ≡ power_up t
one_set {e} l s t f g q = sym (standing_back l s f) ∙ (ap (standing e) q ∙ standing_back l t g)

-- Bytes that are no set's form are refused.
other_by : (e : Edition) (bytes : List ℕ) (d : Bool) → is_form e bytes ≡ d → (read_form e bytes ≡ done (standing e bytes) → ⊥) → pick d (done (standing e bytes)) (refused Form) ≡ refused Form
unfolding read_form
other_by e bytes true i n = absurd (n (rw i refl))
other_by e bytes false i n = refl

pub other_refused : (e : Edition) (bytes : List ℕ) → ((t : Values) → Saved e bytes t → ⊥) → read_form e bytes ≡ refused Form
unfolding read_form
other_refused e bytes n = other_by e bytes (is_form e bytes) refl (λ q. n (standing e bytes) (read_saved e bytes (standing e bytes) q))

-- The refusal is number 12.
refusal_by : (v : Values) (d : Bool) {x : Refusal} → pick d (done v) (refused Form) ≡ refused x → x ≡ Form
refusal_by v true q = never (cc)
refusal_by v false q = cc

pub read_refusal : (e : Edition) (bytes : List ℕ) {x : Refusal} → read_form e bytes ≡ refused x → x ≡ Form
unfolding read_form
read_refusal e bytes q = refusal_by (standing e bytes) (is_form e bytes) q

-- ---- edition 1

rows_each : (table : List (List ℕ)) (values : List ℕ) → rows_allow table values ≡ true → (i : ℕ) → i < length table → row_allows (get_or table i []) (get_or values i 0) ≡ true
unfolding rows_allow
rows_each [] values a i h = absurd (omega arith)
rows_each (row ∷ rest) values a zero h = both_left (row_allows row (get_or values 0 0)) (rows_allow rest (drop 1 values)) a
rows_each (row ∷ rest) values a (suc i) h =
    rw (get_or-drop 1 values i 0, one_more i) at (rows_each rest (drop 1 values) (both_right (row_allows row (get_or values 0 0)) (rows_allow rest (drop 1 values)) a) i (omega arith))

each_rows : (table : List (List ℕ)) (values : List ℕ) → ((i : ℕ) → i < length table → row_allows (get_or table i []) (get_or values i 0) ≡ true) → rows_allow table values ≡ true
unfolding rows_allow
each_rows [] values k = refl
each_rows (row ∷ rest) values k =
    let next : (i : ℕ) → i < length rest → row_allows (get_or rest i []) (get_or (drop 1 values) i 0) ≡ true = λ i h.
    rw (get_or-drop 1 values i 0, one_more i) (k (suc i) (omega arith)) in
    rw (k 0 (omega arith), each_rows rest (drop 1 values) next) refl

-- Allowed row by row, as the table says it.
pub allowed_rows : (values : List ℕ) → AllAllowedIn values → rows_allow rows values ≡ true
allowed_rows values k = let m = many in each_rows rows values (λ i h. sym (row_allowed i (get_or values i 0) h) ∙ k.each i (omega arith))

pub rows_allowed : (values : List ℕ) → length values ≡ parameter_count → rows_allow rows values ≡ true → AllAllowedIn values
rows_allowed values l a = let m = many in record { long = l; each = λ i h. row_allowed i (get_or values i 0) (omega arith) ∙ rows_each rows values a i (omega arith) }

-- Any form that is taken has only allowed values.
pub taken_allowed : (bytes : List ℕ) (t : Values) → read_form edition1 bytes ≡ done t → AllAllowed t
unfolding power_up
taken_allowed bytes t q =
    let k = read_saved edition1 bytes t q in
    let p = rows_allowed t.permanent (k.full.values ∙ many) k.allowed in
    let same : t.permanent ≡ t.present = ap (λ (v : Values). v.present) (read_present edition1 bytes t q) in
    record { present = rw (← same) p; permanent = p }

-- What one reader writes another reads, with equal permanent values and locks.
pub carried : (t : Values) → AllAllowedIn t.permanent → length t.locked ≡ parameter_count → read_form edition1 (form_of edition1 t) ≡ done (power_up t)
carried t k l =
    let m = many in
    written_read lawful1 t (record { values = k.long ∙ sym m; locks = l ∙ sym m }) (allowed_rows t.permanent k)

-- The tables that a reader starts from: the house defaults, and what is read from a form.
pub data Start : Values → Type 0 where
  house : Start defaults
  from_set : {t : Values} (bytes : List ℕ) → read_form edition1 bytes ≡ done t → Start t

start_allowed : (t : Values) → Start t → AllAllowed t
start_allowed _ house = house_allowed
start_allowed t (from_set bytes q) = taken_allowed bytes t q

-- Every value of every table that is reached from there is allowed.
pub always_allowed : {t : Values} → Reached Start t → AllAllowed t
always_allowed r = reached_allowed start_allowed r
