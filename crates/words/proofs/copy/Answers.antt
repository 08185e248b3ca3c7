-- `words::copy` meets its contract: what the room cannot hold is left out of the copy. Assumes nothing.
use native.Mathlib.Omega.{arith}
use Rattle.words.proofs.Lists.{copied_least}
use Rattle.words.proofs.Loops.{copied_more, copied_all}
use Rattle.words.proofs.copy.Goals as goal

pub loop-i-preserved : goal.loop-i-preserved
loop-i-preserved c = copied_more c.loop-i.invariant (omega arith)

pub returns : goal.returns
returns c = copied_least (omega arith) (copied_all c.loop-i.invariant (omega arith))
