-- `table::allowed` meets its contract: what its row takes, if it has one. Assumes nothing.
use Rattle.table.proofs.Finding.{allowed_unknown, allowed_row}
use Rattle.table.proofs.allowed.Goals as goal

pub returns-in-Some : goal.returns-in-Some
returns-in-Some c = allowed_row c.in-Some.ensures c.takes.ensures

pub returns-in-None : goal.returns-in-None
returns-in-None c = allowed_unknown c.in-None.ensures
