-- `table::set_defaults` meets its contract: both values are restored. Assumes nothing.
use Rattle.table.proofs.Changing.{defaults_set}
use Rattle.table.proofs.set_defaults.Goals as goal

pub returns : goal.returns
returns c = defaults_set c.restored.ensures c.restored-2.ensures
