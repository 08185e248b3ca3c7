-- `motikhund::control::put_framer` meets its contract: the flag behind the number. Assumes nothing.
use native.Mathlib.Omega.{arith}
use Rattle.motikhund.proofs.Storing.{framer_put}
use Rattle.motikhund.proofs.control.put_framer.Goals as goal

pub returns : goal.returns
returns c = framer_put (omega arith) c.put_number.ensures c.from.ensures
