-- `motikhund::control::put_number` meets its contract: eight bytes, low byte first. Assumes nothing.
use Rattle.motikhund.proofs.Storing.{number_put}
use native.Mathlib.Omega.{arith}
use Rattle.motikhund.proofs.control.put_number.Goals as goal

pub returns : goal.returns
returns c = number_put (omega arith) c.to_le_bytes.ensures c.put.ensures
