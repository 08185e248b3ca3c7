-- `saved::locks_in` meets its contract: at each turn the first i locks are read. Assumes nothing.
use mathlib.Core.Path.{refl}
use Rattle.saved.proofs.Reading.{unlocking_none, unlocking_more, unlocking_all}
use Rattle.saved.proofs.locks_in.Goals as goal

pub loop-i-init : goal.loop-i-init
loop-i-init c = unlocking_none refl

pub loop-i-preserved : goal.loop-i-preserved
loop-i-preserved c = unlocking_more c.loop-i.invariant c.loop-i-test.true c.comes_next-here.ensures c.from-at.ensures

pub returns : goal.returns
returns c = unlocking_all c.loop-i.invariant c.loop-i-test.false
