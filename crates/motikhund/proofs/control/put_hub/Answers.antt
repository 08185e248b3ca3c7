-- `motikhund::control::put_hub` meets its contract: what is gathered behind the line. Assumes nothing.
use native.Mathlib.Omega.{arith}
use Rattle.motikhund.proofs.Storing.{hub_put}
use Rattle.motikhund.proofs.control.put_hub.Goals as goal

pub returns : goal.returns
returns c = hub_put (omega arith) c.put_halves.ensures c.put_gathering.ensures
