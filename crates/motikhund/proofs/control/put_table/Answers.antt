-- `motikhund::control::put_table` meets its contract: the permanent values behind the present ones, then the locks. Assumes nothing.
use mathlib.Core.Path.{refl}
use native.Mathlib.Omega.{arith}
use borrow.Author.Rules.{rules}
use Rattle.motikhund.proofs.Storing.{table_put}
use Rattle.motikhund.proofs.control.put_table.Goals as goal

pub returns : goal.returns
returns c = table_put (omega arith) (search rules) (search rules) (search rules) c.put.ensures c.put-2.ensures refl c.lock_bytes.ensures c.put-3.ensures
