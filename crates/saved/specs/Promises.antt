-- What the calls of a saved set promise: the answer, the table, and every byte of the room.
use Rattle.std.specs.Prelude.{ℕ, ◌+◌, ◌*◌, ◌≤◌, Bool, List, [], ◌∷◌, ◌≡◌, ltb, length, drop, take, Result, Ok, Err}
use Rattle.words.specs.Lists.{pick, both, over, same_bytes}
use Rattle.packet.specs.declared.Refusal.{Refusal}
use Rattle.packet.specs.declared.Refusal.TheVariants as refusal
use Rattle.table.specs.Rows.{parameter_count, rows}
use Rattle.table.specs.Promises.{values_of, table_of, changed_of}
use Rattle.table.specs.declared.Table.{Table}
use Rattle.saved.specs.Saved.{edition1, locks_of, lock_count, form_of, set_size, values_in, locks_in, standing, rows_allow, read_form}

-- Writing: 13 for room too small for the longest form; else the form, and nothing beyond it.
pub record Saves (t : Table) (room : List ℕ) (r : Result ℕ Refusal) (room' : List ℕ) : Type 0 where
  pub is : r ≡ pick (ltb (length room) set_size) (Err refusal.Room) (Ok (length (form_of edition1 (values_of t))))
  pub room_is : room' ≡ over (pick (ltb (length room) set_size) [] (form_of edition1 (values_of t))) room

-- Reading: the set, or 12; the caller's table is its own, and stays.
pub record Loads (form : List ℕ) (r : Result Table Refusal) : Type 0 where
  pub is : r ≡ changed_of (read_form edition1 form)

-- ---- the functions inside

-- A form with nothing locked.
abbrev pub least_size : ℕ
least_size = 3 + 2 * parameter_count

pub record Puts (t : Table) (room : List ℕ) (r : ℕ) (room' : List ℕ) : Type 0 where
  pub is : r ≡ length (form_of edition1 (values_of t))
  pub room_is : room' ≡ over (form_of edition1 (values_of t)) room
  pub most : r ≤ set_size

abbrev pub lock_bytes : List Bool → List ℕ
lock_bytes locked = lock_count rows locked ∷ locks_of edition1 rows locked

pub record PutsLocks (locked : List Bool) (room : List ℕ) (r : ℕ) (room' : List ℕ) : Type 0 where
  pub is : r ≡ length (lock_bytes locked)
  pub room_is : room' ≡ over (lock_bytes locked) room
  pub most : r ≤ 1 + parameter_count

pub record Stands (form : List ℕ) (r : Table) : Type 0 where
  pub is : r ≡ table_of (standing edition1 form)

pub record ValuesIn (bytes r : List ℕ) : Type 0 where
  pub is : r ≡ values_in edition1 rows bytes

pub record LocksIn (bytes : List ℕ) (r : List Bool) : Type 0 where
  pub is : r ≡ locks_in edition1 rows bytes

pub record ComesNext (bytes : List ℕ) (at number : ℕ) (r : Bool) : Type 0 where
  pub is : r ≡ same_bytes (take 1 (drop at bytes)) (number ∷ [])

pub record Exact (t : Table) (form : List ℕ) (r : Bool) : Type 0 where
  pub is : r ≡ both (same_bytes form (form_of edition1 (values_of t))) (rows_allow rows t.permanent)

pub record AllAllowed (values : List ℕ) (r : Bool) : Type 0 where
  pub is : r ≡ rows_allow rows values
