-- `table::takes` meets its contract: one law for each answer. Assumes nothing.
use Rattle.table.proofs.Finding.{takes_outside, takes_other, takes_trigger}
use Rattle.table.proofs.takes.Goals as goal

pub returns-then-value-lowest : goal.returns-then-value-lowest
returns-then-value-lowest c = takes_outside c.then-value-lowest.either

pub returns-then-number : goal.returns-then-number
returns-then-number c = takes_other c.if-value-lowest.false c.if-highest-value.false c.if-number.true

pub returns-else-number : goal.returns-else-number
returns-else-number c = takes_trigger c.if-value-lowest.false c.if-highest-value.false c.if-number.false c.trigger_allowed.ensures
