-- `saved::locks_in` meets its contract: at each turn the first i locks are read. Assumes nothing.
use Rattle.saved.proofs.Reading.{Unlocking}
use Rattle.saved.proofs.locks_in.Given as goal

abbrev pub invariant-loop-i : goal.invariant-loop-i
invariant-loop-i l = Unlocking l.bytes l.locked l.at l.i
