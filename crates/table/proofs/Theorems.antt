-- The theorems over the table's definitions: what a list of settings changes and what it leaves, that every value stays allowed and what is
-- locked is kept, and what an answer names. Assumes nothing.
use Prim.Native.Nat.{ℕ, zero, suc, ◌≤◌, ◌<◌}
use mathlib.Core.Path.{◌≡◌, refl, sym, ap, ◌∙◌}
use mathlib.Core.Bool.{Bool, true, false, not}
use mathlib.Core.List.{List, [], ◌∷◌, ◌++◌}
use mathlib.Core.Logic.{◌⊎◌, inl, inr}
use native.Mathlib.Omega.{arith}
use lib.Dec.{eqb, ltb}
use lib.ListN.{length, get_or, set, replicate, length-set, length-replicate, get_or-replicate}
use lib.Seq.{get_or-set_same, get_or-set_other}
use borrow.Author.Tests.{eq-eqb, ne_eqb, eqb-true, eqb-false, ltb-true, not-true, not-false}
use Rattle.words.specs.Lists.{pick, both, either}
use Rattle.words.proofs.Lists.{both_left, both_right, both_false, never, either_true}
use Rattle.packet.specs.declared.Refusal.{Refusal}
use Rattle.packet.specs.declared.Refusal.TheVariants.{Data, Setting, Room}
use Rattle.table.specs.Rows.{parameter_count, pairs_size, rows, place_in, place_of, supported, trigger_allowed, range_allowed, row_allows, allowed, defaults_of}
use Rattle.table.specs.Table.{Values, Pair, Reading, wrong_length, pairs, locked_in, settable, all_settable, set_all, changed, Outcome, done, refused, read_pairs, set_pairs, defaults, restored, set_defaults, power_up, member, asked_for, numbers_of, answered_numbers, answer_data}
use Rattle.table.specs.Promises.{Sets, Answers, values_of, changed_of, left_of, marks}
use Rattle.table.specs.declared.Table.{Table}
use Rattle.std.specs.Prelude.{Result, Ok, Err}
use Rattle.table.proofs.Finding.{many, number_at, same_place, length_defaults, length_restored, restored_at}
use Rattle.table.proofs.Answering.{marks_set, marks_most, marks_none, marked_by, member_append, length_pairs, either_false, either_assoc}

-- ---- what a list of settings changes

-- Whether a pair of the list names the number.
unfoldable pub named : ℕ → List Pair → Bool
named n [] = false
named n (p ∷ ps) = either (eqb p.number n) (named n ps)

placed_in : (n : ℕ) → supported n ≡ true → place_of n < parameter_count
unfolding supported
placed_in n s = ltb-true (place_of n) parameter_count s

pub either_left : (a b : Bool) → either a b ≡ false → a ≡ false
either_left true b e = e
either_left false b e = refl

pub either_right : (a b : Bool) → either a b ≡ false → b ≡ false
either_right true b e = cc
either_right false b e = e

set_kept : (ps : List Pair) (values : List ℕ) (n : ℕ) → supported n ≡ true → named n ps ≡ false → get_or (set_all ps values) (place_of n) 0 ≡ get_or values (place_of n) 0
unfolding set_all named
set_kept [] values n s e = refl
set_kept (p ∷ ps) values n s e =
    let d = eqb-false p.number n (either_left (eqb p.number n) (named n ps) e) in
    set_kept ps (set values (place_of p.number) p.value) n s (either_right (eqb p.number n) (named n ps) e)
    ∙ get_or-set_other values (place_of p.number) (place_of n) p.value 0 (λ q. d (sym (same_place n p.number (placed_in n s) q)))

-- A number not named keeps both values.
pub unnamed_kept : (forever : Bool) (ps : List Pair) (t : Values) (n : ℕ) → supported n ≡ true → named n ps ≡ false →
    (get_or (changed forever ps t).present (place_of n) 0 ≡ get_or t.present (place_of n) 0)
    × (get_or (changed forever ps t).permanent (place_of n) 0 ≡ get_or t.permanent (place_of n) 0)
unfolding changed
unnamed_kept true ps t n s e = (set_kept ps t.present n s e, set_kept ps t.permanent n s e)
unnamed_kept false ps t n s e = (set_kept ps t.present n s e, refl)

-- A refused list changes nothing.
pub refused_changes_nothing : (t : Table) (r : Refusal) → left_of t (changed_of (refused r)) ≡ t
unfolding changed_of left_of
refused_changes_nothing t r = refl

-- What a list leaves of the values: the new ones, or where it is refused those before.
unfoldable pub left_by : Values → Outcome → Values
left_by v (done w) = w
left_by v (refused r) = v

pub left_values : (t : Table) (o : Outcome) → values_of (left_of t (changed_of o)) ≡ left_by (values_of t) o
unfolding changed_of left_of left_by
left_values t (done v) = refl
left_values t (refused r) = ap values_of (refused_changes_nothing t r)

-- So does the call, by its promise alone.
pub set_leaves : {t : Table} {bytes : List ℕ} {forever : Bool} {r : Result Table Refusal} → Sets t bytes forever r →
    values_of (left_of t r) ≡ left_by (values_of t) (set_pairs forever (read_pairs bytes) (values_of t))
set_leaves {t} {bytes} {forever} sets = rw sets.is (left_values t (set_pairs forever (read_pairs bytes) (values_of t)))

-- One pair that may not be set, wherever it stands, refuses the whole list.
bad_in : (locked : List Bool) (ps qs : List Pair) (p : Pair) → settable locked p ≡ false → all_settable locked (ps ++ (p ∷ qs)) ≡ false
unfolding all_settable
bad_in locked [] qs p e = simp e
bad_in locked (x ∷ ps) qs p e = both_false (settable locked x) (all_settable locked (ps ++ (p ∷ qs))) (bad_in locked ps qs p e)

pub bad_pair_refuses : (forever : Bool) (ps qs : List Pair) (p : Pair) (t : Values) → settable t.locked p ≡ false →
    set_pairs forever (pairs (ps ++ (p ∷ qs))) t ≡ refused Setting
unfolding set_pairs
bad_pair_refuses forever ps qs p t e = simp (bad_in t.locked ps qs p e)

-- A value that is not allowed is such a pair, and so is a locked parameter with any value.
pub disallowed_unsettable : (locked : List Bool) (p : Pair) → allowed p.number p.value ≡ false → settable locked p ≡ false
unfolding settable
disallowed_unsettable locked p e = both_false (not (locked_in locked p.number)) (allowed p.number p.value) e

pub locked_unsettable : (locked : List Bool) (p : Pair) → locked_in locked p.number ≡ true → settable locked p ≡ false
unfolding settable
locked_unsettable locked p e = simp e

-- Without bit 3 no permanent value changes.
pub temporary_stays_temporary : (ps : List Pair) (t : Values) → (changed false ps t).permanent ≡ t.permanent
unfolding changed
temporary_stays_temporary ps t = refl

-- A list of settings leaves as many values as there were.
pub length_set_all : (ps : List Pair) (values : List ℕ) → length (set_all ps values) ≡ length values
unfolding set_all
length_set_all [] values = refl
length_set_all (p ∷ ps) values = length_set_all ps (set values (place_of p.number) p.value) ∙ length-set values (place_of p.number) p.value

-- Two lists one after the other set what the whole list sets.
pub set_all_append : (ps qs : List Pair) (values : List ℕ) → set_all (ps ++ qs) values ≡ set_all qs (set_all ps values)
unfolding set_all
set_all_append [] qs values = refl
set_all_append (p ∷ ps) qs values = set_all_append ps qs (set values (place_of p.number) p.value)

-- Of a number named twice the later value holds: whatever came before, and whatever comes after that names it no more.
pub later_holds : (ps qs : List Pair) (p : Pair) (values : List ℕ) → supported p.number ≡ true → length values ≡ parameter_count → named p.number qs ≡ false →
    get_or (set_all (ps ++ (p ∷ qs)) values) (place_of p.number) 0 ≡ p.value
unfolding set_all
later_holds ps qs p values s l e =
    let i = place_of p.number in
    let inside : i < length (set_all ps values) = let z = placed_in p.number s in let w = length_set_all ps values in omega arith in
    rw (set_all_append ps (p ∷ qs) values)
    (set_kept qs (set (set_all ps values) i p.value) p.number s e ∙ get_or-set_same (set_all ps values) i p.value 0 inside)

-- The last pair of a list holds.
pub last_holds : (ps : List Pair) (p : Pair) (values : List ℕ) → supported p.number ≡ true → length values ≡ parameter_count →
    get_or (set_all (ps ++ (p ∷ [])) values) (place_of p.number) 0 ≡ p.value
unfolding named
last_holds ps p values s l = later_holds ps [] p values s l refl

-- ---- every value stays allowed

-- Each row's number and its value are allowed.
pub record AllAllowedIn (values : List ℕ) : Type 0 where
  pub long : length values ≡ parameter_count
  pub each : (i : ℕ) → i < parameter_count → allowed (get_or (get_or rows i []) 0 0) (get_or values i 0) ≡ true

-- A test that antt computes over the whole table, and the rule that it gives.
unfoldable defaults_allowed : List (List ℕ) → Bool
defaults_allowed [] = true
defaults_allowed (row ∷ rest) = both (allowed (get_or row 0 0) (get_or row 3 0)) (defaults_allowed rest)

default_allowed : (table : List (List ℕ)) → defaults_allowed table ≡ true → (i : ℕ) → i < length table →
    allowed (get_or (get_or table i []) 0 0) (get_or (defaults_of table) i 0) ≡ true
unfolding defaults_allowed defaults_of
default_allowed [] t i h = absurd (omega arith)
default_allowed (row ∷ rest) t zero h = both_left (allowed (get_or row 0 0) (get_or row 3 0)) (defaults_allowed rest) t
default_allowed (row ∷ rest) t (suc i) h =
    default_allowed rest (both_right (allowed (get_or row 0 0) (get_or row 3 0)) (defaults_allowed rest) t) i (omega arith)

defaults_tested : defaults_allowed rows ≡ true
unfolding defaults_allowed rows allowed supported row_allows range_allowed trigger_allowed place_in
defaults_tested = refl

-- The house defaults are allowed.
pub defaults_allowed_lem : AllAllowedIn (defaults_of rows)
defaults_allowed_lem = record { long = length_defaults rows ∙ many; each = λ i h. default_allowed rows defaults_tested i (omega (arith, many)) }

supported_of : (n v : ℕ) → allowed n v ≡ true → supported n ≡ true
unfolding allowed
supported_of n v e = both_left (supported n) _ e

set_one_at : (values : List ℕ) (n v : ℕ) → AllAllowedIn values → allowed n v ≡ true → (i : ℕ) → i < parameter_count → (d : Bool) → eqb i (place_of n) ≡ d →
    allowed (get_or (get_or rows i []) 0 0) (get_or (set values (place_of n) v) i 0) ≡ true
set_one_at values n v k a i h true e =
    let p = placed_in n (supported_of n v a) in
    rw (eqb-true i (place_of n) e, number_at rows n (omega (arith, many)), get_or-set_same values (place_of n) v 0 (omega (arith, k.long))) a
set_one_at values n v k a i h false e = rw (get_or-set_other values (place_of n) i v 0 (eqb-false i (place_of n) e)) (k.each i h)

set_one_allowed : (values : List ℕ) (n v : ℕ) → AllAllowedIn values → allowed n v ≡ true → AllAllowedIn (set values (place_of n) v)
set_one_allowed values n v k a =
    record { long = length-set values (place_of n) v ∙ k.long; each = λ i h. set_one_at values n v k a i h (eqb i (place_of n)) refl }

-- What may be set is allowed.
settable_allowed : (locked : List Bool) (p : Pair) → settable locked p ≡ true → allowed p.number p.value ≡ true
unfolding settable
settable_allowed locked p e = both_right (not (locked_in locked p.number)) (allowed p.number p.value) e

-- A list of pairs that may be set keeps every value allowed.
pub set_all_allowed : (locked : List Bool) (ps : List Pair) (values : List ℕ) → AllAllowedIn values → all_settable locked ps ≡ true → AllAllowedIn (set_all ps values)
unfolding set_all all_settable
set_all_allowed locked [] values k a = k
set_all_allowed locked (p ∷ ps) values k a =
    set_all_allowed locked ps (set values (place_of p.number) p.value)
    (set_one_allowed values p.number p.value k (settable_allowed locked p (both_left (settable locked p) (all_settable locked ps) a)))
    (both_right (settable locked p) (all_settable locked ps) a)

-- Restored values are allowed: the default or the value there was.
restored_by : (i v d : ℕ) (l : Bool) → allowed (get_or (get_or rows i []) 0 0) v ≡ true → allowed (get_or (get_or rows i []) 0 0) d ≡ true →
    allowed (get_or (get_or rows i []) 0 0) (pick l v d) ≡ true
restored_by i v d true a b = a
restored_by i v d false a b = b

pub restored_allowed : (locked : List Bool) (values : List ℕ) → AllAllowedIn values → AllAllowedIn (restored locked values (defaults_of rows))
restored_allowed locked values k =
    let l = length_defaults rows ∙ many in
    record {
      long = length_restored locked values (defaults_of rows) ∙ l;
      each = λ i h. rw (restored_at locked values (defaults_of rows) i (omega arith))
          (restored_by i (get_or values i 0) (get_or (defaults_of rows) i 0) (get_or locked i false) (k.each i h) (defaults_allowed_lem.each i h));
    }

-- The same of a table, present and permanent.
pub record AllAllowed (t : Values) : Type 0 where
  pub present : AllAllowedIn t.present
  pub permanent : AllAllowedIn t.permanent

changed_allowed : (forever : Bool) (ps : List Pair) (t : Values) → AllAllowed t → all_settable t.locked ps ≡ true → AllAllowed (changed forever ps t)
unfolding changed
changed_allowed true ps t k a =
    record { present = set_all_allowed t.locked ps t.present k.present a; permanent = set_all_allowed t.locked ps t.permanent k.permanent a }
changed_allowed false ps t k a = record { present = set_all_allowed t.locked ps t.present k.present a; permanent = k.permanent }

-- An accepted list: every pair may be set, and the table is the one with all of them set.
pub record Accepted (forever : Bool) (reading : Reading) (t t' : Values) : Type 0 where
  pub listed : List Pair
  pub read : reading ≡ pairs listed
  pub settable : all_settable t.locked listed ≡ true
  pub is : t' ≡ changed forever listed t

accepted_by : (forever : Bool) (ps : List Pair) (t t' : Values) (d : Bool) → all_settable t.locked ps ≡ d →
    pick d (done (changed forever ps t)) (refused Setting) ≡ done t' → Accepted forever (pairs ps) t t'
accepted_by forever ps t t' true a e = let z : changed forever ps t ≡ t' = cc in record { listed = ps; read = refl; settable = a; is = sym z }
accepted_by forever ps t t' false a e = never (cc)

pub accepted : (forever : Bool) (reading : Reading) (t t' : Values) → set_pairs forever reading t ≡ done t' → Accepted forever reading t t'
unfolding set_pairs
accepted forever wrong_length t t' e = never (cc)
accepted forever (pairs ps) t t' e = accepted_by forever ps t t' (all_settable t.locked ps) refl e

-- A list is refused by 7 or 9.
refusal_by : (d : Bool) (v : Values) {x : Refusal} → pick d (done v) (refused Setting) ≡ refused x → x ≡ Setting
refusal_by true v e = never (cc)
refusal_by false v e = cc

pub set_refusal : (forever : Bool) (reading : Reading) (t : Values) {x : Refusal} → set_pairs forever reading t ≡ refused x → (x ≡ Data) ⊎ (x ≡ Setting)
unfolding set_pairs
set_refusal forever wrong_length t e = inl (cc)
set_refusal forever (pairs ps) t e = inr (refusal_by (all_settable t.locked ps) (changed forever ps t) e)

-- An accepted list, PARAM_DEFAULTS and power-up keep every value of a table allowed.
pub accepted_allowed : (forever : Bool) (reading : Reading) (t t' : Values) → AllAllowed t → set_pairs forever reading t ≡ done t' → AllAllowed t'
accepted_allowed forever reading t t' k e =
    let a = accepted forever reading t t' e in
    rw a.is (changed_allowed forever a.listed t k a.settable)

pub set_defaults_allowed : (t : Values) → AllAllowed t → AllAllowed (set_defaults t)
unfolding set_defaults
set_defaults_allowed t k =
    record { present = restored_allowed t.locked t.present k.present; permanent = restored_allowed t.locked t.permanent k.permanent }

pub powered_up_allowed : (t : Values) → AllAllowed t → AllAllowed (power_up t)
unfolding power_up
powered_up_allowed t k = record { present = k.permanent; permanent = k.permanent }

pub house_allowed : AllAllowed defaults
unfolding defaults
house_allowed = record { present = defaults_allowed_lem; permanent = defaults_allowed_lem }

-- The tables that are made from such a start by accepted lists, PARAM_DEFAULTS and power-ups.
pub data Reached (Start : Values → Type 0) : Values → Type 0 where
  at_first : {t : Values} → Start t → Reached Start t
  by_list : {t t' : Values} (forever : Bool) (reading : Reading) → Reached Start t → set_pairs forever reading t ≡ done t' → Reached Start t'
  by_defaults : {t : Values} → Reached Start t → Reached Start (set_defaults t)
  by_power_up : {t : Values} → Reached Start t → Reached Start (power_up t)

-- Every value in such a table is allowed where it is in every start.
pub reached_allowed : {Start : Values → Type 0} → ((t : Values) → Start t → AllAllowed t) → {t : Values} → Reached Start t → AllAllowed t
reached_allowed first (at_first {t} s) = first t s
reached_allowed first (by_list {t} {t'} forever reading r e) = accepted_allowed forever reading t t' (reached_allowed first r) e
reached_allowed first (by_defaults {t} r) = set_defaults_allowed t (reached_allowed first r)
reached_allowed first (by_power_up {t} r) = powered_up_allowed t (reached_allowed first r)

-- ---- what is locked is kept

-- The locks are the same; the parameter of each locked row has the permanent value that it had, and where its present value was equal to it, still has both.
pub record KeepsLocked (t t' : Values) : Type 0 where
  pub locks_same : t'.locked ≡ t.locked
  pub permanent_same : (i : ℕ) → i < parameter_count → get_or t.locked i false ≡ true → get_or t'.permanent i 0 ≡ get_or t.permanent i 0
  pub present_same :
      (i : ℕ) → i < parameter_count → get_or t.locked i false ≡ true → get_or t.present i 0 ≡ get_or t.permanent i 0 → get_or t'.present i 0 ≡ get_or t.permanent i 0

pub keeps_same : (t : Values) → KeepsLocked t t
keeps_same t = record { locks_same = refl; permanent_same = λ i h l. refl; present_same = λ i h l e. e }

pub keeps_then : {a b d : Values} → KeepsLocked a b → KeepsLocked b d → KeepsLocked a d
keeps_then {a} {b} {d} k m =
    let still : (i : ℕ) → get_or a.locked i false ≡ true → get_or b.locked i false ≡ true = λ i l. rw k.locks_same l in
    record {
      locks_same = m.locks_same ∙ k.locks_same;
      permanent_same = λ i h l. m.permanent_same i h (still i l) ∙ k.permanent_same i h l;
      present_same = λ i h l e.
          m.present_same i h (still i l) (k.present_same i h l e ∙ sym (k.permanent_same i h l)) ∙ k.permanent_same i h l;
    }

settable_elsewhere : (locked : List Bool) (p : Pair) (i : ℕ) → settable locked p ≡ true → get_or locked i false ≡ true → (i ≡ place_of p.number → ⊥)
unfolding settable locked_in
settable_elsewhere locked p i s l e =
    let free = not-true (get_or locked (place_of p.number) false) (both_left (not (locked_in locked p.number)) (allowed p.number p.value) s) in
    let here : get_or locked (place_of p.number) false ≡ true = rw (← e) l in
    never (cc)

set_all_locked : (locked : List Bool) (ps : List Pair) (values : List ℕ) (i : ℕ) → all_settable locked ps ≡ true → get_or locked i false ≡ true →
    get_or (set_all ps values) i 0 ≡ get_or values i 0
unfolding set_all all_settable
set_all_locked locked [] values i a l = refl
set_all_locked locked (p ∷ ps) values i a l =
    set_all_locked locked ps (set values (place_of p.number) p.value) i (both_right (settable locked p) (all_settable locked ps) a) l
    ∙ get_or-set_other values (place_of p.number) i p.value 0 (settable_elsewhere locked p i (both_left (settable locked p) (all_settable locked ps) a) l)

changed_keeps : (forever : Bool) (ps : List Pair) (t : Values) → all_settable t.locked ps ≡ true → KeepsLocked t (changed forever ps t)
unfolding changed
changed_keeps true ps t a =
    record {
      locks_same = refl;
      permanent_same = λ i h l. set_all_locked t.locked ps t.permanent i a l;
      present_same = λ i h l e. set_all_locked t.locked ps t.present i a l ∙ e;
    }
changed_keeps false ps t a =
    record { locks_same = refl; permanent_same = λ i h l. refl; present_same = λ i h l e. set_all_locked t.locked ps t.present i a l ∙ e }

-- An accepted list, PARAM_DEFAULTS and power-up keep what is locked.
pub accepted_keeps : (forever : Bool) (reading : Reading) (t t' : Values) → set_pairs forever reading t ≡ done t' → KeepsLocked t t'
accepted_keeps forever reading t t' e =
    let a = accepted forever reading t t' e in
    rw a.is (changed_keeps forever a.listed t a.settable)

restored_locked : (locked : List Bool) (values : List ℕ) (i : ℕ) → i < parameter_count → get_or locked i false ≡ true →
    get_or (restored locked values (defaults_of rows)) i 0 ≡ get_or values i 0
restored_locked locked values i h l =
    restored_at locked values (defaults_of rows) i (let z = length_defaults rows ∙ many in omega arith) ∙ simp l

pub set_defaults_keeps : (t : Values) → KeepsLocked t (set_defaults t)
unfolding set_defaults
set_defaults_keeps t =
    record {
      locks_same = refl;
      permanent_same = λ i h l. restored_locked t.locked t.permanent i h l;
      present_same = λ i h l e. restored_locked t.locked t.present i h l ∙ e;
    }

pub power_up_keeps : (t : Values) → KeepsLocked t (power_up t)
unfolding power_up
power_up_keeps t = record { locks_same = refl; permanent_same = λ i h l. refl; present_same = λ i h l e. refl }

-- With all of them locked PARAM_DEFAULTS changes no value.
pub all_locked : (t : Values) (i : ℕ) → i < parameter_count → get_or t.locked i false ≡ true →
    (get_or (set_defaults t).present i 0 ≡ get_or t.present i 0) × (get_or (set_defaults t).permanent i 0 ≡ get_or t.permanent i 0)
unfolding set_defaults
all_locked t i h l = (restored_locked t.locked t.present i h l, restored_locked t.locked t.permanent i h l)

-- Where it is not locked, PARAM_DEFAULTS sets both values to the house default.
pub unlocked_default : (t : Values) (i : ℕ) → i < parameter_count → get_or t.locked i false ≡ false →
    (get_or (set_defaults t).present i 0 ≡ get_or (defaults_of rows) i 0) × (get_or (set_defaults t).permanent i 0 ≡ get_or (defaults_of rows) i 0)
unfolding set_defaults
unlocked_default t i h l =
    let z = length_defaults rows ∙ many in
    (restored_at t.locked t.present (defaults_of rows) i (omega arith) ∙ simp l, restored_at t.locked t.permanent (defaults_of rows) i (omega arith) ∙ simp l)

-- ---- what an answer names

-- No number stands twice; every number is supported; each is above the one before.
unfoldable pub distinct : List ℕ → Bool
distinct [] = true
distinct (n ∷ ns) = both (not (member n ns)) (distinct ns)

unfoldable pub all_supported : List ℕ → Bool
all_supported [] = true
all_supported (n ∷ ns) = both (supported n) (all_supported ns)

unfoldable pub rising_from : ℕ → List ℕ → Bool
rising_from m [] = true
rising_from m (n ∷ ns) = both (ltb m n) (rising_from n ns)

unfoldable pub rising : List ℕ → Bool
rising [] = true
rising (n ∷ ns) = rising_from n ns

-- Each number once, and only supported ones.
pub record Once (ns : List ℕ) : Type 0 where
  pub once : distinct ns ≡ true
  pub known : all_supported ns ≡ true

distinct_more : (ns : List ℕ) (n : ℕ) → distinct ns ≡ true → member n ns ≡ false → distinct (ns ++ (n ∷ [])) ≡ true
unfolding distinct member
distinct_more [] n d m = refl
distinct_more (x ∷ xs) n d m =
    let other : eqb n x ≡ false = ne_eqb n x (λ q. eqb-false x n (either_left (eqb x n) (member n xs) m) (sym q)) in
    let new = not-true (member x xs) (both_left (not (member x xs)) (distinct xs) d) in
    simp
    (member_append x xs (n ∷ []), new, other, distinct_more xs n (both_right (not (member x xs)) (distinct xs) d) (either_right (eqb x n) (member n xs) m))

supported_more : (ns : List ℕ) (n : ℕ) → all_supported ns ≡ true → supported n ≡ true → all_supported (ns ++ (n ∷ [])) ≡ true
unfolding all_supported
supported_more [] n a s = simp s
supported_more (x ∷ xs) n a s =
    simp (both_left (supported x) (all_supported xs) a, supported_more xs n (both_right (supported x) (all_supported xs) a) s)

once_by : (sofar : List ℕ) (n : ℕ) → Once sofar → (d : Bool) → both (supported n) (not (member n sofar)) ≡ d → Once (pick d (sofar ++ (n ∷ [])) sofar)
once_by sofar n k true e =
    record {
      once = distinct_more sofar n k.once (not-true (member n sofar) (both_right (supported n) (not (member n sofar)) e));
      known = supported_more sofar n k.known (both_left (supported n) (not (member n sofar)) e);
    }
once_by sofar n k false e = k

asked_once : (sofar ns : List ℕ) → Once sofar → Once (asked_for sofar ns)
unfolding asked_for
asked_once sofar [] k = k
asked_once sofar (n ∷ ns) k =
    asked_once (pick (both (supported n) (not (member n sofar))) (sofar ++ (n ∷ [])) sofar) ns
    (once_by sofar n k (both (supported n) (not (member n sofar))) refl)

rows_once : Once (numbers_of rows)
unfolding distinct member all_supported supported numbers_of place_in rows
rows_once = record { once = refl; known = refl }

answered_by : (asked : List ℕ) (d : Bool) → Once (pick d (numbers_of rows) (asked_for [] asked))
unfolding distinct all_supported
answered_by asked true = rows_once
answered_by asked false = asked_once [] asked (record { once = refl; known = refl })

-- The answer names each number at most once, and only supported ones.
pub answer_names_once : (asked : List ℕ) → Once (answered_numbers asked)
unfolding answered_numbers
answer_names_once asked = answered_by asked (member 0xFE asked)

grown_by : (sofar : List ℕ) (m n : ℕ) → supported n ≡ true → (d : Bool) → both (supported m) (not (member m sofar)) ≡ d → (e : Bool) → eqb m n ≡ e →
    member n (pick d (sofar ++ (m ∷ [])) sofar) ≡ either (member n sofar) e
unfolding member
grown_by sofar m n s true t true q = member_append n sofar (m ∷ []) ∙ simp q
grown_by sofar m n s true t false q = member_append n sofar (m ∷ []) ∙ simp q
grown_by sofar m n s false t true q =
    let b = simp s at (rw (eqb-true m n q) at t) in
    let there = not-false (member n sofar) b in
    there ∙ sym (either_true (member n sofar))
grown_by sofar m n s false t false q = sym (either_false (member n sofar))

asked_there : (sofar ns : List ℕ) (n : ℕ) → supported n ≡ true → member n (asked_for sofar ns) ≡ either (member n sofar) (member n ns)
unfolding asked_for member
asked_there sofar [] n s = sym (either_false (member n sofar))
asked_there sofar (m ∷ ns) n s =
    asked_there (pick (both (supported m) (not (member m sofar))) (sofar ++ (m ∷ [])) sofar) ns n s
    ∙ rw (grown_by sofar m n s (both (supported m) (not (member m sofar))) refl (eqb m n) refl) (sym (either_assoc (member n sofar) (eqb m n) (member n ns)))

-- Without FEh a supported number is answered exactly where it is asked for.
pub answer_names_asked : (asked : List ℕ) (n : ℕ) → supported n ≡ true → member 0xFE asked ≡ false → member n (answered_numbers asked) ≡ member n asked
unfolding answered_numbers member
answer_names_asked asked n s e = simp e (asked_there [] asked n s)

-- Numbers that stand once and are supported mark as many rows.
record Marked (ns : List ℕ) : Type 0 where
  seen : List Bool
  long : length seen ≡ parameter_count
  count : marks seen ≡ length ns
  same : (m : ℕ) → supported m ≡ true → get_or seen (place_of m) false ≡ member m ns

either_swap : (a b : Bool) → either a (either b false) ≡ either b a
either_swap true true = refl
either_swap true false = refl
either_swap false true = refl
either_swap false false = refl

marked : (ns : List ℕ) → distinct ns ≡ true → all_supported ns ≡ true → Marked ns
unfolding distinct all_supported member
marked [] d a =
    record {
      seen = replicate parameter_count false;
      long = length-replicate parameter_count false;
      count = marks_none parameter_count;
      same = λ m s. get_or-replicate parameter_count (place_of m) false false (placed_in m s);
    }
marked (n ∷ ns) d a =
    let k = marked ns (both_right (not (member n ns)) (distinct ns) d) (both_right (supported n) (all_supported ns) a) in
    let s = both_left (supported n) (all_supported ns) a in
    let new = not-true (member n ns) (both_left (not (member n ns)) (distinct ns) d) in
    let inside : place_of n < length k.seen = let z = placed_in n s in omega (arith, k.long) in
    record {
      seen = set k.seen (place_of n) true;
      long = length-set k.seen (place_of n) true ∙ k.long;
      count = let z = marks_set k.seen (place_of n) inside (k.same n s ∙ new) in omega (arith, k.count);
      same = λ m t. marked_by k.seen ns n m inside t (k.same m t) (eqb n m) refl ∙ either_swap (member m ns) (eqb n m);
    }

once_most : (ns : List ℕ) → Once ns → length ns ≤ parameter_count
once_most ns o = let k = marked ns o.once o.known in let m = marks_most k.seen in omega (arith, k.long, k.count)

-- An answer's data is the beep byte and at most a pair for each row.
pub answer_most : (t : Values) (asked : List ℕ) → length (answer_data t asked) ≤ pairs_size
unfolding answer_data
answer_most t asked =
    let l = length_pairs t (answered_numbers asked) in
    let m = once_most (answered_numbers asked) (answer_names_once asked) in
    omega arith

answered_by_room : (d : Bool) (l n : ℕ) → l ≤ pairs_size → pick {A = Result ℕ Refusal} d (Err Room) (Ok l) ≡ Ok n → n ≤ pairs_size
answered_by_room true l n h e = never (cc)
answered_by_room false l n h e = let z : l ≡ n = cc in omega arith

-- The same of the number of bytes that `answer` gives back, for its callers.
pub answered_most : {t : Table} {asked room room' : List ℕ} {r : Result ℕ Refusal} {n : ℕ} → Answers t asked room r room' → r ≡ Ok n → n ≤ pairs_size
answered_most {t} {asked} {room} {n = n} k e = answered_by_room (ltb (length room) pairs_size) (length (answer_data (values_of t) asked)) n (answer_most (values_of t) asked) (sym k.is ∙ e)

member_there : (n : ℕ) (xs ys : List ℕ) → member n (xs ++ (n ∷ ys)) ≡ true
unfolding member
member_there n [] ys = simp (eq-eqb n n refl)
member_there n (x ∷ xs) ys = rw (member_there n xs ys) (either_true (eqb x n))

-- With FEh anywhere in the list the answer names all rows, in rising order.
pub all_asked : (xs ys : List ℕ) → answered_numbers (xs ++ (0xFE ∷ ys)) ≡ numbers_of rows
unfolding answered_numbers
all_asked xs ys = simp (member_there 0xFE xs ys)

-- The rows stand in rising order.
pub rows_rising : rising (numbers_of rows) ≡ true
unfolding rising rising_from numbers_of rows
rows_rising = refl
