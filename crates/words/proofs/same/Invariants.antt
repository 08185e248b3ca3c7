-- `words::same` meets its contract: at each turn the bytes passed are equal. Assumes nothing.
use Rattle.words.proofs.Loops.{Alike}
use Rattle.words.proofs.same.Given as goal

abbrev pub invariant-loop-i : goal.invariant-loop-i
invariant-loop-i l = Alike l.a l.b l.i
