-- `saved::put_locks` meets its contract: at each turn the locked ones among the rows passed are written. Assumes nothing.
use lib.ListN.{length}
use Rattle.saved.proofs.Writing.{Locking}
use Rattle.saved.proofs.put_locks.Given as goal

abbrev pub invariant-loop-number : goal.invariant-loop-number
invariant-loop-number l = Locking l.fn.locked l.initial.room l.room l.count (length l.yielded)
