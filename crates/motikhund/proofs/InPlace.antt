-- The table changed in place (§23): thin calls in a row leave what the by-value calls in a row leave, and what a single one keeps. Assumes nothing.
use Prim.Native.Nat.{ℕ}
use mathlib.Core.Path.{◌≡◌, refl, sym, ap, ◌∙◌}
use mathlib.Core.Bool.{Bool, true, false}
use mathlib.Core.List.{List, [], ◌∷◌}
use lib.ListN.{length, get_or}
use Rattle.words.specs.Machine.{through, after}
use Rattle.words.proofs.Lists.{both_left, both_right}
use Rattle.packet.specs.declared.Refusal.{Refusal}
use Rattle.table.specs.Rows.{parameter_count, rows, place_of, supported}
use Rattle.table.specs.Table.{Values, Outcome, done, refused, read_pairs, set_pairs, set_defaults, power_up}
use Rattle.table.specs.Promises.{pairs_of}
use Rattle.table.proofs.Theorems.{named, AllAllowed, accepted, accepted_keeps, set_defaults_keeps, power_up_keeps, unnamed_kept, temporary_stays_temporary}
use Rattle.table.specs.declared.Table.{Table}
use Rattle.saved.specs.Saved.{rows_allow}
use Rattle.saved.proofs.Theorems.{rows_allowed}
use Rattle.reader.specs.Reader.{with_set}
use Rattle.reader.specs.Promises.{state_of}
use Rattle.reader.proofs.Loading.{with_table_state}
use Rattle.motikhund.specs.Control.{reader_in}
use Rattle.motikhund.specs.Numbers.{settled_number}
use Rattle.motikhund.specs.Tables.{table_of, values_in, struct_of, with_values, struct_after, all_allowed, reader_after, PutsInto, SetsTable, Asked, list, to_defaults, to_power_up, settled, step_of, table_step, Alters, sets, defaulted, powered, InARow, none, next}
use Rattle.motikhund.specs.declared.tables.MkTable.{MkTable}
use Rattle.motikhund.proofs.Reading.{flags_back}

-- ---- one call

-- No by-value call changes a lock.
settled_locks : (v w : Values) (a : Asked) → settled v a ≡ done w → w.locked ≡ v.locked
unfolding settled
settled_locks v w (list pairs forever) e = (accepted_keeps forever (read_pairs pairs) v w e).locks_same
settled_locks v w to_defaults e = let f : set_defaults v ≡ w = cc in rw (← f) (set_defaults_keeps v).locks_same
settled_locks v w to_power_up e = let f : power_up v ≡ w = cc in rw (← f) (power_up_keeps v).locks_same

-- The struct with values whose locks are its own stands for them.
stands : (k : MkTable) (w : Values) → w.locked ≡ (values_in k).locked → values_in (with_values k w) ≡ w
stands k w e = ap (λ (l : List Bool). record { present = w.present; permanent = w.permanent; locked = l }) (sym e)

pub record Same (k : MkTable) (a : Asked) (r : ℕ) (k' : MkTable) : Type 0 where
  pub told : r ∷ [] ≡ (table_step (values_in k) a).told
  pub values : values_in k' ≡ (table_step (values_in k) a).next
  pub locks : k'.locked ≡ k.locked

same_by : (k : MkTable) (a : Asked) (o : Outcome) → settled (values_in k) a ≡ o → Same k a (settled_number o 0) (struct_after k o)
unfolding struct_after step_of
same_by k a (done w) e = record { told = rw e refl; values = rw e (stands k w (settled_locks (values_in k) w a e)); locks = refl }
same_by k a (refused x) e = record { told = rw e refl; values = rw e refl; locks = refl }

-- A thin call tells and leaves what the by-value call does, and no lock's byte is another.
pub alters_same : {k k' : MkTable} {a : Asked} {r : ℕ} → Alters a k r k' → Same k a r k'
unfolding settled struct_after
alters_same {k} {a = a} (sets p) = rw (p.told, p.is) (same_by k a (settled (values_in k) a) refl)
alters_same {k} {a = a} (defaulted p) = rw p.is (same_by k a (settled (values_in k) a) refl)
alters_same {k} {a = a} (powered p) = rw p.is (same_by k a (settled (values_in k) a) refl)

-- ---- calls in a row

pub record SameRow (k : MkTable) (calls : List Asked) (rs : List ℕ) (k' : MkTable) : Type 0 where
  pub told : rs ≡ (through table_step (values_in k) calls).told
  pub values : values_in k' ≡ (through table_step (values_in k) calls).next
  pub locks : k'.locked ≡ k.locked

pub in_a_row : {calls : List Asked} {k k' : MkTable} {rs : List ℕ} → InARow calls k rs k' → SameRow k calls rs k'
unfolding through after
in_a_row none = record { told = refl; values = refl; locks = refl }
in_a_row {k = k} (next {k' = k₁} {calls = calls} {r = r} one more) =
    let s = alters_same one in
    let t = in_a_row more in
    record {
      told = rw (← s.told, ← s.values) (ap (λ (l : List ℕ). r ∷ l) t.told);
      values = rw (← s.values) t.values;
      locks = t.locks ∙ s.locks;
    }

-- ---- what a list keeps

-- By a refusal not a byte has changed.
pub refused_keeps : {k k' : MkTable} {pairs : List ℕ} {forever : Bool} {r : ℕ} {x : Refusal} → SetsTable k pairs forever r k' → set_pairs forever (read_pairs pairs) (values_in k) ≡ refused x → k' ≡ k
unfolding struct_after
refused_keeps p e = p.is ∙ rw e refl

-- A parameter that is not named keeps both values.
kept_by : (k : MkTable) (pairs : List ℕ) (forever : Bool) (n : ℕ) (o : Outcome) → set_pairs forever (read_pairs pairs) (values_in k) ≡ o → supported n ≡ true → named n (pairs_of (read_pairs pairs)) ≡ false →
    (get_or (struct_after k o).present (place_of n) 0 ≡ get_or k.present (place_of n) 0) × (get_or (struct_after k o).permanent (place_of n) 0 ≡ get_or k.permanent (place_of n) 0)
unfolding struct_after pairs_of
kept_by k pairs forever n (done w) e s f =
    let a = accepted forever (read_pairs pairs) (values_in k) w e in
    rw a.is (unnamed_kept forever a.listed (values_in k) n s (sym (ap (λ r. named n (pairs_of r)) a.read) ∙ f))
kept_by k pairs forever n (refused x) e s f = (refl, refl)

pub unnamed_keeps : {k k' : MkTable} {pairs : List ℕ} {forever : Bool} {r : ℕ} (n : ℕ) → SetsTable k pairs forever r k' → supported n ≡ true → named n (pairs_of (read_pairs pairs)) ≡ false →
    (get_or k'.present (place_of n) 0 ≡ get_or k.present (place_of n) 0) × (get_or k'.permanent (place_of n) 0 ≡ get_or k.permanent (place_of n) 0)
unnamed_keeps {k} {pairs = pairs} {forever} n p s f = rw p.is (kept_by k pairs forever n (set_pairs forever (read_pairs pairs) (values_in k)) refl s f)

-- Without bit 3 no permanent value changes.
temporary_by : (k : MkTable) (pairs : List ℕ) (o : Outcome) → set_pairs false (read_pairs pairs) (values_in k) ≡ o → (struct_after k o).permanent ≡ k.permanent
unfolding struct_after
temporary_by k pairs (done w) e = let a = accepted false (read_pairs pairs) (values_in k) w e in rw a.is (temporary_stays_temporary a.listed (values_in k))
temporary_by k pairs (refused x) e = refl

pub temporary_keeps : {k k' : MkTable} {pairs : List ℕ} {r : ℕ} → SetsTable k pairs false r k' → k'.permanent ≡ k.permanent
temporary_keeps {k} {pairs = pairs} p = rw p.is (temporary_by k pairs (set_pairs false (read_pairs pairs) (values_in k)) refl)

-- ---- out of a reader and back

-- A table that is taken out and put back is the one that it was.
pub struct_back : (t : Table) → table_of (struct_of t) ≡ t
struct_back t = ap (λ (l : List Bool). record { present = t.present; permanent = t.permanent; locked = l }) (flags_back t.locked)

-- A table that is put into a reader is its table then, no packet is the last accepted one, and all else stays: so no resent equal is answered from memory.
pub put_back_state : {control control' : List ℕ} {k : MkTable} {r : ℕ} (line answers message : List ℕ) → PutsInto control k r control' → all_allowed k ≡ true →
    state_of (reader_in control') line answers message ≡ with_set (state_of (reader_in control) line answers message) (values_in k)
unfolding reader_after
put_back_state {control} {k = k} line answers message p e = rw (p.kept.reads, e) (with_table_state (reader_in control) (table_of k) line answers message)

-- Only allowed values go into a reader, so that they stay so through every run. A struct's arrays have nine by their type.
pub put_back_allowed : (k : MkTable) → length k.present ≡ parameter_count → length k.permanent ≡ parameter_count → all_allowed k ≡ true → AllAllowed (values_in k)
unfolding all_allowed
put_back_allowed k l m e =
    let present = rows_allow rows k.present in
    let permanent = rows_allow rows k.permanent in
    record { present = rows_allowed k.present l (both_left present permanent e); permanent = rows_allowed k.permanent m (both_right present permanent e) }
