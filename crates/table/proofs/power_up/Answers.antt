-- `table::power_up` meets its contract. Assumes nothing.
use Rattle.table.proofs.Changing.{powered_up}
use Rattle.table.proofs.power_up.Goals as goal

pub returns : goal.returns
returns c = powered_up
