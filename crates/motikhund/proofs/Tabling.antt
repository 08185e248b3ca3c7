-- What the calls on a table that is kept as a struct leave, from what the table's own calls promise. Assumes nothing.
use Prim.Native.Nat.{ℕ, ◌≤◌}
use mathlib.Core.Path.{◌≡◌, refl, sym, ap, ◌∙◌}
use mathlib.Core.Bool.{Bool, true, false}
use mathlib.Core.List.{List, [], ◌∷◌}
use lib.ListN.{length}
use Rattle.words.proofs.Lists.{never}
use Rattle.packet.specs.declared.Refusal.TheVariants as refusal
use Rattle.table.specs.Table.{Outcome as Settled, done, refused, read_pairs, set_pairs}
use Rattle.table.specs.Promises.{values_of, changed_of, left_of, Sets}
use Rattle.table.specs.declared.Table.{Table}
use Rattle.table.proofs.Theorems.{refused_changes_nothing}
use Rattle.packet.specs.Refusals.{number_of}
use Rattle.packet.specs.declared.Refusal.{Refusal}
use Rattle.std.proofs.Common.{Result, Ok, Err}
use Rattle.saved.specs.Promises as saved
use Rattle.reader.specs.Promises as reading
use Rattle.reader.specs.declared.Reader.{Reader}
use Rattle.motikhund.specs.Lent.{at_least, Lacking, none, more}
use Rattle.motikhund.specs.Control.{reader_control_size, reader_in, ReaderIn, PutsReader}
use Rattle.motikhund.specs.Numbers.{RefusalNumber, settled_number}
use Rattle.motikhund.specs.Tables.{table_of, with_values, struct_after, all_allowed, reader_after, TableOf, WithValues, AllAllowed, SetsTable, TakesOut, PutsBack}
use Rattle.motikhund.specs.declared.tables.MkTable.{MkTable}
use Rattle.motikhund.proofs.Calls.{asks_13, asks_enough, reader_kept, alone, put_back}

-- ---- the table that a struct stands for

pub both_allowed : {k : MkTable} {present permanent : Bool} → saved.AllAllowed k.present present → present ≡ true → saved.AllAllowed k.permanent permanent → AllAllowed k permanent
unfolding all_allowed
both_allowed p e q = record { is = q.is ∙ sym (simp (sym p.is ∙ e)) }

pub not_allowed : {k : MkTable} {present : Bool} → saved.AllAllowed k.present present → present ≡ false → AllAllowed k present
unfolding all_allowed
not_allowed p e = record { is = e ∙ sym (simp (sym p.is ∙ e)) }

-- ---- the calls in place

-- The struct with what a list leaves its caller by value: the new values, or its own where the list is refused.
settled : (k : MkTable) (o : Settled) → with_values k (values_of (left_of (table_of k) (changed_of o))) ≡ struct_after k o
unfolding changed_of left_of struct_after
settled k (done v) = refl
settled k (refused x) = ap (λ (t : Table). with_values k (values_of t)) (refused_changes_nothing (table_of k) x)

done_set : (k : MkTable) (o : Settled) {next : Table} → Ok next ≡ changed_of o → (0 ≡ settled_number o 0) × (with_values k (values_of next) ≡ struct_after k o)
unfolding changed_of left_of
done_set k (done v) q = (refl, ap (λ (r : Result Table Refusal). with_values k (values_of (left_of (table_of k) r))) q ∙ settled k (done v))
done_set k (refused x) q = never (cc)

refused_set : (k : MkTable) (o : Settled) {x : Refusal} → Err x ≡ changed_of o → (number_of x ≡ settled_number o 0) × (k ≡ struct_after k o)
unfolding changed_of left_of
refused_set k (done v) q = never (cc)
refused_set k (refused y) {x} q =
    let e : x ≡ y = cc in
    (ap number_of e, ap (λ (r : Result Table Refusal). with_values k (values_of (left_of (table_of k) r))) q ∙ settled k (refused y))

module _ {k : MkTable} {t : Table} {pairs : List ℕ} {forever : Bool} (stands : TableOf k t) where
  pub pairs_set : {next : Table} {r : MkTable} → Sets t pairs forever (Ok next) → WithValues k next r → SetsTable k pairs forever 0 r
  pairs_set {next} sets puts =
      let d = done_set k (set_pairs forever (read_pairs pairs) (values_of (table_of k))) (rw stands.is at sets.is) in
      record { told = d.0; is = puts.is ∙ d.1 }

  pub pairs_refused : {x : Refusal} {n : ℕ} → Sets t pairs forever (Err x) → RefusalNumber x n → SetsTable k pairs forever n k
  pairs_refused {x} sets number =
      let d = refused_set k (set_pairs forever (read_pairs pairs) (values_of (table_of k))) (rw stands.is at sets.is) in
      record { told = number.is ∙ d.0; is = d.1 }

-- ---- from a reader and back

pub out_13 : {control : List ℕ} {k : MkTable} → Lacking (at_least reader_control_size control ∷ []) → TakesOut control k 13 k
out_13 lacks = record { asks = asks_13 lacks (refl, refl) }

module _ {control : List ℕ} {k : MkTable} {sound : Bool} (c : reader_control_size ≤ length control) (allows : AllAllowed k sound) where
  pub back_refused : {r : ℕ} → sound ≡ false → RefusalNumber refusal.Setting r → PutsBack control k r control
  unfolding reader_after
  back_refused e number =
      let f : all_allowed k ≡ false = sym allows.is ∙ e in
      record { asks = asks_enough (more c none) (record { told = number.is ∙ simp f; kept = alone (simp f) refl (simp f) }) }

  pub put_into : {control' : List ℕ} {before next : Reader} {t : Table} → sound ≡ true → ReaderIn control before → TableOf k t → reading.WithTable before t next →
      PutsReader next control control' → PutsBack control k 0 control'
  unfolding reader_after
  put_into {next = next} e before-is stands with_it put =
      let f : all_allowed k ≡ true = sym allows.is ∙ e in
      let is : next ≡ reader_after (reader_in control) k = with_it.is ∙ rw (before-is.is, stands.is) (simp f) in
      record { asks = asks_enough (more c none) (record { told = simp f; kept = put_back (simp f) (reader_kept (rw is at put)) }) }
