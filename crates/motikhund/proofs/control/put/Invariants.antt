-- `control::put` meets its contract: the first i bytes stand in the room. Assumes nothing.
use Rattle.words.proofs.Loops.{Copying}
use Rattle.motikhund.proofs.control.put.Given as goal

abbrev pub invariant-loop-i : goal.invariant-loop-i
invariant-loop-i g l = Copying l.part l.initial.room l.room l.i
