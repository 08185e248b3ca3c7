-- `table::asked_pairs` meets its contract: at each turn the numbers answered so far are those of the marked rows. Assumes nothing.
use Rattle.table.proofs.Answering.{Asking}
use Rattle.table.proofs.asked_pairs.Given as goal

abbrev pub invariant-loop-number : goal.invariant-loop-number
invariant-loop-number l = Asking l.values l.asked l.initial.room l.room l.seen l.at l.number-index
