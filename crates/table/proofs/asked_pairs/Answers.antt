-- `table::asked_pairs` meets its contract: at each turn the numbers answered so far are those of the marked rows. Assumes nothing.
use Rattle.table.proofs.Answering.{asking_none, asking_more, asking_all}
use Rattle.table.proofs.asked_pairs.Goals as goal

pub loop-number-init : goal.loop-number-init
loop-number-init c = asking_none c.requires

pub ask-at-requires : goal.ask-at-requires
ask-at-requires c = c.loop-number.invariant.fits

pub loop-number-preserved : goal.loop-number-preserved
loop-number-preserved c = asking_more c.loop-number.invariant c.loop-number-test.true c.ask-at.ensures

pub returns : goal.returns
returns c = asking_all c.loop-number.invariant c.loop-number-test.false
