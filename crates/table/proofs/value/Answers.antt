-- `table::value` meets its contract: what stands at its place, or 0 where it has none. Assumes nothing.
use borrow.Author.Rules.{rules}
use Rattle.table.proofs.Finding.{value_found, value_none}
use Rattle.table.proofs.value.Goals as goal

pub returns-in-Some : goal.returns-in-Some
returns-in-Some c = value_found c.in-Some.ensures

pub returns-in-None : goal.returns-in-None
returns-in-None c = value_none c.in-None.ensures (search rules)
