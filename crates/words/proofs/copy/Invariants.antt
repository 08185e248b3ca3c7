-- `words::copy` meets its contract: at each turn the first i bytes are copied. Assumes nothing.
use Rattle.words.proofs.Loops.{Copying}
use Rattle.words.proofs.copy.Given as goal

abbrev pub invariant-loop-i : goal.invariant-loop-i
invariant-loop-i l = Copying l.part l.initial.room l.room l.i
