-- `control::part` meets its contract: the first i bytes are those of the part. Assumes nothing.
use lib.ListN.{take}
use Rattle.words.proofs.Loops.{Filling}
use Rattle.motikhund.proofs.control.part.Given as goal

abbrev pub invariant-loop-i : goal.invariant-loop-i
invariant-loop-i g l = Filling (take g.row.N l.s) l.part l.i
