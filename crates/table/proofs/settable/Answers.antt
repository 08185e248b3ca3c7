-- `table::settable` meets its contract: not where it is locked, else where its row takes the value. Assumes nothing.
use Rattle.table.proofs.Changing.{settable_locked, settable_free, settable_unknown}
use Rattle.table.proofs.settable.Goals as goal

pub returns-then-not-locked-at : goal.returns-then-not-locked-at
returns-then-not-locked-at c = settable_free c.in-Some.ensures c.if-not-locked-at.true c.takes.ensures

pub returns-else-not-locked-at : goal.returns-else-not-locked-at
returns-else-not-locked-at c = settable_locked c.in-Some.ensures c.if-not-locked-at.false

pub returns-in-None : goal.returns-in-None
returns-in-None c = settable_unknown c.in-None.ensures
