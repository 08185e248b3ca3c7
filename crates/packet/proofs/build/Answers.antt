-- `packet::build` meets its contract: 257 bytes of room hold every packet. Assumes nothing.
use native.Mathlib.Omega.{arith}
use Rattle.packet.proofs.Writing.{build_put}
use Rattle.packet.proofs.build.Goals as goal

pub put-requires : goal.put-requires
put-requires c = (omega arith, λ h. omega arith)

pub returns : goal.returns
returns c = build_put (omega arith) c.put.ensures
