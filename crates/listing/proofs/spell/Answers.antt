-- `listing::spell` meets its contract: the loop keeps that the bytes so far are spelt. Assumes nothing.
use native.Mathlib.Omega.{arith}
use Rattle.listing.proofs.Lines.{spelling_none, spelling_room, spelling_more, spelling_all}
use Rattle.listing.proofs.spell.Goals as goal

pub loop-b-init : goal.loop-b-init
loop-b-init c = spelling_none (omega arith)

pub write-requires : goal.write-requires
write-requires c = spelling_room c.loop-b.invariant (omega arith) c.requires

pub loop-b-preserved : goal.loop-b-preserved
loop-b-preserved c = spelling_more c.loop-b.invariant (omega arith) c.spelt.ensures c.write.ensures

pub returns : goal.returns
returns c = spelling_all c.loop-b.invariant (omega arith) (omega arith)
