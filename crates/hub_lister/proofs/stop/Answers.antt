-- `hub_lister::stop` meets its contract: the line `E`. Assumes nothing.
use Rattle.hub_lister.proofs.Lines.{stopped}
use native.Mathlib.Omega.{arith}
use Rattle.hub_lister.proofs.stop.Goals as goal

pub returns : goal.returns
returns c = stopped (omega arith) c.put_error.ensures
