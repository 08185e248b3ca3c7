-- `table::all_pairs` meets its contract: at each turn the pairs of the rows passed are written. Assumes nothing.
use lib.ListN.{length}
use Rattle.table.proofs.Answering.{Listing}
use Rattle.table.proofs.all_pairs.Given as goal

abbrev pub invariant-loop-i : goal.invariant-loop-i
invariant-loop-i l = Listing l.fn.values l.pairs (length l.yielded)
