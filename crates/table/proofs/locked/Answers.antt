-- `table::locked` meets its contract: what stands at its place, or not where it has none. Assumes nothing.
use borrow.Author.Rules.{rules}
use Rattle.table.proofs.Finding.{locked_found, locked_none}
use Rattle.table.proofs.locked.Goals as goal

pub returns-in-Some : goal.returns-in-Some
returns-in-Some c = locked_found c.in-Some.ensures

pub returns-in-None : goal.returns-in-None
returns-in-None c = locked_none c.in-None.ensures (search rules)
