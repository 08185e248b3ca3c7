-- `control::put` meets its contract: the part, and behind it what stood there. Assumes nothing.
use native.Mathlib.Omega.{arith}
use Rattle.words.proofs.Loops.{copied_none, copied_more, copied_all}
use Rattle.motikhund.proofs.control.put.Goals as goal

pub loop-i-init : goal.loop-i-init
loop-i-init g c = copied_none (omega arith)

pub loop-i-preserved : goal.loop-i-preserved
loop-i-preserved g c = copied_more c.loop-i.invariant (omega arith)

pub returns : goal.returns
returns g c = copied_all c.loop-i.invariant (omega arith)
