-- `words::same` meets its contract: at each turn the bytes passed are equal. Assumes nothing.
use native.Mathlib.Omega.{arith}
use Rattle.words.proofs.Loops.{unlike, alike_none, alike_more, alike_stop, alike_all}
use Rattle.words.proofs.same.Goals as goal

pub returns-then-a-b : goal.returns-then-a-b
returns-then-a-b c = unlike c.if-a-b.true

pub loop-i-init : goal.loop-i-init
loop-i-init c = alike_none (omega arith)

pub returns-then-a-i : goal.returns-then-a-i
returns-then-a-i c = alike_stop c.loop-i.invariant (omega arith) c.if-a-i.true

pub loop-i-preserved : goal.loop-i-preserved
loop-i-preserved c = alike_more c.loop-i.invariant (omega arith) c.if-a-i.false

pub returns : goal.returns
returns c = alike_all c.loop-i.invariant (omega arith)
