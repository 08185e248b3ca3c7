-- `table::defaults` meets its contract: the call below it, with nothing locked. Assumes nothing.
use Rattle.table.proofs.Changing.{defaults_made}
use Rattle.table.proofs.defaults.Goals as goal

pub returns : goal.returns
returns c = defaults_made c.set_defaults.ensures
