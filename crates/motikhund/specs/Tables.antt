-- §23: a parameter table that a board keeps itself, as a struct. Each call on it is the by-value call on the table that the struct stands for.
use Rattle.std.specs.Prelude.{ℕ, Bool, not, List, [], ◌∷◌, ◌≡◌}
use Rattle.words.specs.Lists.{both, pick}
use Rattle.words.specs.Machine.{Done}
use Rattle.packet.specs.Refusals.{number_of}
use Rattle.packet.specs.declared.Refusal.TheVariants.{Setting}
use Rattle.table.specs.Rows.{rows}
use Rattle.table.specs.Table.{Values, Outcome, done, refused, read_pairs, set_pairs, set_defaults, power_up}
use Rattle.table.specs.Promises.{values_of}
use Rattle.table.specs.declared.Table.{Table}
use Rattle.saved.specs.Saved.{rows_allow}
use Rattle.reader.specs.Promises.{with_table}
use Rattle.reader.specs.declared.Reader.{Reader}
use Rattle.motikhund.specs.Control.{flags_in, flag_bytes, reader_control_size, reader_in, reader_bytes}
use Rattle.motikhund.specs.Numbers.{settled_number}
use Rattle.motikhund.specs.Lent.{at_least, Asks, KeptUnless}
use Rattle.motikhund.specs.declared.tables.MkTable.{MkTable}

-- The table that a struct stands for: a lock holds where its byte is 1.
abbrev pub table_of : MkTable → Table
table_of k = record { present = k.present; permanent = k.permanent; locked = flags_in k.locked }

abbrev pub values_in : MkTable → Values
values_in k = values_of (table_of k)

-- The struct of a table.
abbrev pub struct_of : Table → MkTable
struct_of t = record { present = t.present; permanent = t.permanent; locked = flag_bytes t.locked }

-- The struct with other values. No lock's byte is written, whatever it is.
abbrev pub with_values : MkTable → Values → MkTable
with_values k v = record { present = v.present; permanent = v.permanent; locked = k.locked }

-- What becomes of a struct. What is refused changes no byte.
unfoldable pub struct_after : MkTable → Outcome → MkTable
struct_after k (done v) = with_values k v
struct_after k (refused x) = k

-- ---- the thin calls

pub record SetsTable (k : MkTable) (pairs : List ℕ) (forever : Bool) (r : ℕ) (k' : MkTable) : Type 0 where
  pub told : r ≡ settled_number (set_pairs forever (read_pairs pairs) (values_in k)) 0
  pub is : k' ≡ struct_after k (set_pairs forever (read_pairs pairs) (values_in k))

pub record DefaultsTable (k k' : MkTable) : Type 0 where
  pub is : k' ≡ with_values k (set_defaults (values_in k))

pub record PowersUpTable (k k' : MkTable) : Type 0 where
  pub is : k' ≡ with_values k (power_up (values_in k))

-- ---- from a reader and back

pub record TakesOut (control : List ℕ) (k : MkTable) (r : ℕ) (k' : MkTable) : Type 0 where
  pub asks : Asks (at_least reader_control_size control ∷ []) ((r ≡ 13) × (k' ≡ k)) ((r ≡ 0) × (k' ≡ struct_of (reader_in control).device.table))

-- A table whose values are all allowed.
unfoldable pub all_allowed : MkTable → Bool
all_allowed k = both (rows_allow rows k.present) (rows_allow rows k.permanent)

-- The reader with the table that the struct stands for; no packet is the last accepted one. Else 9, and the reader stays.
unfoldable pub reader_after : Reader → MkTable → Reader
reader_after r k = pick (all_allowed k) (with_table r (table_of k)) r

pub record PutsInto (control : List ℕ) (k : MkTable) (r : ℕ) (control' : List ℕ) : Type 0 where
  pub told : r ≡ pick (all_allowed k) 0 (number_of Setting)
  pub kept : KeptUnless (not (all_allowed k)) reader_in reader_bytes (reader_after (reader_in control) k) control control'

pub record PutsBack (control : List ℕ) (k : MkTable) (r : ℕ) (control' : List ℕ) : Type 0 where
  pub asks : Asks (at_least reader_control_size control ∷ []) ((r ≡ 13) × (control' ≡ control)) (PutsInto control k r control')

-- ---- one call after another

-- What is asked of a table: a list, for now or for good, the house defaults, power-up.
pub data Asked : Type 0 where
  list : List ℕ → Bool → Asked
  to_defaults : Asked
  to_power_up : Asked

-- The call by value.
unfoldable pub settled : Values → Asked → Outcome
settled v (list pairs forever) = set_pairs forever (read_pairs pairs) v
settled v to_defaults = done (set_defaults v)
settled v to_power_up = done (power_up v)

-- The values that it leaves, and its number. A call that tells none tells 0 here.
unfoldable pub step_of : Values → Outcome → Done Values ℕ
step_of v (done w) = record { next = w; told = 0 ∷ [] }
step_of v (refused x) = record { next = v; told = number_of x ∷ [] }

abbrev pub table_step : Values → Asked → Done Values ℕ
table_step v a = step_of v (settled v a)

-- A thin call, by its promise alone, and such calls on one struct in a row.
pub data Alters : Asked → MkTable → ℕ → MkTable → Type 0 where
  sets : {k k' : MkTable} {pairs : List ℕ} {forever : Bool} {r : ℕ} → SetsTable k pairs forever r k' → Alters (list pairs forever) k r k'
  defaulted : {k k' : MkTable} → DefaultsTable k k' → Alters to_defaults k 0 k'
  powered : {k k' : MkTable} → PowersUpTable k k' → Alters to_power_up k 0 k'

pub data InARow : List Asked → MkTable → List ℕ → MkTable → Type 0 where
  none : {k : MkTable} → InARow [] k [] k
  next : {k k' k'' : MkTable} {a : Asked} {calls : List Asked} {r : ℕ} {rs : List ℕ} → Alters a k r k' → InARow calls k' rs k'' → InARow (a ∷ calls) k (r ∷ rs) k''

-- ---- the functions inside

pub record TableOf (k : MkTable) (r : Table) : Type 0 where
  pub is : r ≡ table_of k

pub record StructOf (t : Table) (r : MkTable) : Type 0 where
  pub is : r ≡ struct_of t

pub record WithValues (k : MkTable) (t : Table) (r : MkTable) : Type 0 where
  pub is : r ≡ with_values k (values_of t)

pub record AllAllowed (k : MkTable) (r : Bool) : Type 0 where
  pub is : r ≡ all_allowed k
