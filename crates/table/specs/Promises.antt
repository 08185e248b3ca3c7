-- What the table's calls promise: the answer, the table, and every byte of the room.
use Rattle.std.specs.Prelude.{ℕ, ◌+◌, ◌*◌, ◌≤◌, ◌<◌, IfSome, Bool, true, false, not, List, [], ◌∷◌, ◌≡◌, ltb, length, get_or, set, map, Option, Some, None, Result, Ok, Err}
use Rattle.words.specs.Lists.{pick, both, over, over_at}
use Rattle.packet.specs.declared.Refusal.{Refusal}
use Rattle.packet.specs.declared.Refusal.TheVariants as refusal
use Rattle.table.specs.Rows.{parameter_count, pairs_size, rows, place_of, supported, trigger_allowed, row_allows, allowed, defaults_of}
use Rattle.table.specs.Table.{Values, Pair, Reading, wrong_length, pairs, read_pairs, send_length_allowed, request_length_allowed, locked_in, settable, all_settable, changed, Outcome, done, refused, set_pairs, defaults, restored, set_defaults, power_up, value_of, asked_for, numbers_of, pair_bytes, answer_data}
use Rattle.table.specs.declared.Table.{Table}

-- What a table stands for.
abbrev pub values_of : Table → Values
values_of t = record { present = t.present; permanent = t.permanent; locked = t.locked }

abbrev pub table_of : Values → Table
table_of v = record { present = v.present; permanent = v.permanent; locked = v.locked }

-- What became of a list of settings: the new table, or the refusal.
unfoldable pub changed_of : Outcome → Result Table Refusal
changed_of (done v) = Ok (table_of v)
changed_of (refused r) = Err r

-- What the caller has then: the new table, or on a refusal its own as it was.
unfoldable pub left_of : Table → Result Table Refusal → Table
left_of t (Ok t') = t'
left_of t (Err r) = t

pub record Defaults (r : Table) : Type 0 where
  pub is : r ≡ table_of defaults

pub record SetsDefaults (t r : Table) : Type 0 where
  pub is : r ≡ table_of (set_defaults (values_of t))

pub record PowerUp (t r : Table) : Type 0 where
  pub is : r ≡ table_of (power_up (values_of t))

pub record Sets (t : Table) (bytes : List ℕ) (forever : Bool) (r : Result Table Refusal) : Type 0 where
  pub is : r ≡ changed_of (set_pairs forever (read_pairs bytes) (values_of t))

pub record SendLengthAllowed (carried : List ℕ) (r : Bool) : Type 0 where
  pub is : r ≡ send_length_allowed carried

pub record RequestLengthAllowed (carried : List ℕ) (r : Bool) : Type 0 where
  pub is : r ≡ request_length_allowed carried

pub record Value (t : Table) (number r : ℕ) : Type 0 where
  pub is : r ≡ value_of (values_of t) number

pub record Locked (t : Table) (number : ℕ) (r : Bool) : Type 0 where
  pub is : r ≡ locked_in t.locked number

pub record Allowed (number value : ℕ) (r : Bool) : Type 0 where
  pub is : r ≡ allowed number value

-- The pair writer: 13 for room too small for the longest answer; else the data, and nothing beyond it.
pub record Answers (t : Table) (asked room : List ℕ) (r : Result ℕ Refusal) (room' : List ℕ) : Type 0 where
  pub is : r ≡ pick (ltb (length room) pairs_size) (Err refusal.Room) (Ok (length (answer_data (values_of t) asked)))
  pub room_is : room' ≡ over (pick (ltb (length room) pairs_size) [] (answer_data (values_of t) asked)) room

abbrev pub showing : List ℕ → Values
showing values = record { present = values; permanent = []; locked = [] }

-- All pairs, in rising order.
pub record AllPairs (values r : List ℕ) : Type 0 where
  pub is : r ≡ pair_bytes (showing values) (numbers_of rows)

-- ---- the functions inside

pub record Restores (locked : List Bool) (values r : List ℕ) : Type 0 where
  pub is : r ≡ restored locked values (defaults_of rows)

-- A parameter that has a row is found at its place.
pub record Place (number : ℕ) (r : Option ℕ) : Type 0 where
  pub is : r ≡ pick (supported number) (Some (place_of number)) None
  pub inside : IfSome r (λ at. at < parameter_count)

pub record Takes (row : List ℕ) (value : ℕ) (r : Bool) : Type 0 where
  pub is : r ≡ row_allows row value

pub record TriggerAllowed (value : ℕ) (r : Bool) : Type 0 where
  pub is : r ≡ trigger_allowed value

-- The pairs of an even number of bytes.
unfoldable pub pairs_of : Reading → List Pair
pairs_of wrong_length = []
pairs_of (pairs ps) = ps

-- Pairs as two bytes each.
abbrev pub pair_of : List ℕ → Pair
pair_of bytes = record { number = get_or bytes 0 0; value = get_or bytes 1 0 }

pub record Settable (locked : List Bool) (number value : ℕ) (r : Bool) : Type 0 where
  pub is : r ≡ settable locked (record { number = number; value = value })

pub record AllSettable (locked : List Bool) (chunks : List (List ℕ)) (r : Bool) : Type 0 where
  pub is : r ≡ all_settable locked (map pair_of chunks)

-- A value for each parameter.
pub record Full (values : List ℕ) : Type 0 where
  pub is : length values ≡ parameter_count

pub record Puts (values : List ℕ) (number value : ℕ) (r : List ℕ) : Type 0 where
  pub is : r ≡ set values (place_of number) value

pub record Changes (t : Table) (chunks : List (List ℕ)) (forever : Bool) (r : Table) : Type 0 where
  pub is : r ≡ table_of (changed forever (map pair_of chunks) (values_of t))

pub record AskedPairs (values asked room : List ℕ) (r : ℕ) (room' : List ℕ) : Type 0 where
  pub is : r ≡ length (pair_bytes (showing values) (asked_for [] asked))
  pub room_is : room' ≡ over (pair_bytes (showing values) (asked_for [] asked)) room
  pub most : r ≤ 2 * parameter_count

-- How many are marked.
unfoldable pub marks : List Bool → ℕ
marks [] = 0
marks (true ∷ bs) = 1 + marks bs
marks (false ∷ bs) = marks bs

-- As long as one is not marked, there is room for its pair.
pub record Fits (seen : List Bool) (at : ℕ) (room : List ℕ) : Type 0 where
  pub at_is : at ≡ marks seen + marks seen
  pub room_is : 2 * parameter_count ≤ length room
  pub seen_is : length seen ≡ parameter_count

-- One number asked for.
unfoldable pub asks : List Bool → ℕ → Bool
asks seen number = both (ltb (place_of number) parameter_count) (not (get_or seen (place_of number) false))

pub record Asks (seen : List Bool) (at : ℕ) (values : List ℕ) (number : ℕ) (room : List ℕ) (r : ℕ) (seen' : List Bool) (room' : List ℕ) : Type 0 where
  pub is : r ≡ pick (asks seen number) (at + 2) at
  pub seen_is : seen' ≡ pick (asks seen number) (set seen (place_of number) true) seen
  pub room_is : room' ≡ pick (asks seen number) (over_at at (number ∷ get_or values (place_of number) 0 ∷ []) room) room
