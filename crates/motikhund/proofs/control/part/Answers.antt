-- `control::part` meets its contract: the first i bytes are those of the part. Assumes nothing.
use mathlib.Core.Path.{sym}
use native.Mathlib.Omega.{arith}
use lib.ListN.{length-take, length-replicate}
use lib.Seq.{get_or-take}
use Rattle.words.proofs.Loops.{filled_none, filled_more, filled_all}
use Rattle.motikhund.proofs.control.part.Goals as goal

pub loop-i-init : goal.loop-i-init
loop-i-init g c = filled_none (simp (length-take, length-replicate) (omega arith))

pub loop-i-preserved : goal.loop-i-preserved
loop-i-preserved g c = filled_more 0 _ c.loop-i.invariant (simp length-take (omega arith)) (sym (get_or-take g.row.N c.args.s.now c.loop-i.i 0 c.loop-i-test.true))

pub returns : goal.returns
returns g c = record { is = filled_all c.loop-i.invariant (simp length-take (omega arith)) }
