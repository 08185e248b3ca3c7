-- `hub::acknowledge` meets its contract: ACK, which is never refused with room enough. Assumes nothing.
use native.Mathlib.Omega.{arith}
use Rattle.hub.proofs.Control.{acknowledges}
use Rattle.hub.proofs.acknowledge.Goals as goal

pub returns : goal.returns
returns c = acknowledges (omega arith) c.answer.ensures c.size_of.ensures
