-- `motikhund::control::put_gathering` meets its contract: the number behind three bytes. Assumes nothing.
use native.Mathlib.Omega.{arith}
use Rattle.motikhund.proofs.Storing.{gathering_put}
use Rattle.motikhund.proofs.control.put_gathering.Goals as goal

pub returns : goal.returns
returns c = gathering_put (omega arith) c.from.ensures c.from-2.ensures c.put.ensures c.put_number.ensures
