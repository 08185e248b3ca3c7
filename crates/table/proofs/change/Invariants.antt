-- `table::change` meets its contract: at each turn the pairs passed are set, in the permanent values where it is asked. Assumes nothing.
use Rattle.table.proofs.Changing.{Changing}
use Rattle.table.proofs.change.Given as goal

abbrev pub invariant-loop-number : goal.invariant-loop-number
invariant-loop-number l = Changing l.permanent l.initial.next l.pairs l.next l.number-index
