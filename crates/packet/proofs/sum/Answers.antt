-- `packet::sum` meets its contract: at each turn the bytes passed are summed. Assumes nothing.
use native.Mathlib.Omega.{arith}
use Rattle.packet.proofs.Sums.{summing_none, summing_more, summing_all}
use Rattle.packet.proofs.sum.Goals as goal

pub loop-byte-init : goal.loop-byte-init
loop-byte-init c = summing_none

pub loop-byte-preserved : goal.loop-byte-preserved
loop-byte-preserved c = summing_more c.loop-byte.invariant (omega arith) c.from-total.ensures (omega (arith, c.type_inv.s c.loop-byte.byte-index))

pub returns : goal.returns
returns c = summing_all c.loop-byte.invariant c.loop-byte.auto.byte-index-end (omega arith) (omega arith)
