-- `hub::refuse` meets its contract: the NAK of the refusal, which is never refused with room enough. Assumes nothing.
use native.Mathlib.Omega.{arith}
use Rattle.hub.proofs.Control.{refuses_nak}
use Rattle.hub.proofs.refuse.Goals as goal

pub returns : goal.returns
returns c = refuses_nak (omega arith) c.nak.ensures c.size_of.ensures
