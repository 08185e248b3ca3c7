-- `control::lock_bytes` meets its contract: the first i locks are bytes. Assumes nothing.
use Rattle.words.proofs.Loops.{Filling}
use Rattle.motikhund.specs.Control.{flag_bytes}
use Rattle.motikhund.proofs.control.lock_bytes.Given as goal

abbrev pub invariant-loop-i : goal.invariant-loop-i
invariant-loop-i l = Filling (flag_bytes l.locked) l.bytes l.i
