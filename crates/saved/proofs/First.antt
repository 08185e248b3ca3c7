-- Edition 1 keeps the laws of an edition, and what they say of it in numbers. Assumes nothing.
use Prim.Native.Nat.{ℕ, ◌+◌, ◌≤◌}
use mathlib.Core.Path.{◌≡◌, refl}
use mathlib.Core.Bool.{Bool, true}
use mathlib.Core.List.{List}
use native.Mathlib.Omega.{arith}
use lib.ListN.{length}
use Rattle.table.specs.Rows.{rows}
use Rattle.table.specs.Table.{Values, member, numbers_of}
use Rattle.table.proofs.Finding.{many}
use Rattle.table.proofs.Theorems.{distinct}
use Rattle.saved.specs.Saved.{edition1, pairs_of, locks_of, lock_count, form_of, set_size}
use Rattle.saved.specs.Promises.{least_size}
use Rattle.saved.proofs.Forms.{Lawful, length_pairs, length_locks, length_form, count_most}

rows_apart : distinct (numbers_of rows) ≡ true
unfolding distinct member numbers_of rows
rows_apart = refl

pub lawful1 : Lawful edition1
lawful1 = record { wide = λ n. refl; some = omega arith; apart = λ m n e. cc; once = rows_apart }

pub length_pairs1 : (table : List (List ℕ)) (values : List ℕ) → length (pairs_of edition1 table values) ≡ length table + length table
length_pairs1 table values = let k = length_pairs lawful1 table values in omega arith

pub length_locks1 : (table : List (List ℕ)) (locked : List Bool) → length (locks_of edition1 table locked) ≡ lock_count table locked
length_locks1 table locked = let k = length_locks lawful1 table locked in omega arith

-- 21 bytes and one for each lock; 30 at most.
pub length_form1 : (t : Values) → length (form_of edition1 t) ≡ least_size + lock_count rows t.locked
length_form1 t = let k = length_form lawful1 t in let m = many in omega arith

pub form1_most : (t : Values) → length (form_of edition1 t) ≤ set_size
form1_most t = let k = length_form1 t in let c = count_most rows t.locked in let m = many in omega arith
