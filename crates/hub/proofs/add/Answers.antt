-- `hub::add` meets its contract: type, total, and then the piece handed out or kept. Assumes nothing.
use native.Mathlib.Omega.{arith}
use Rattle.hub.proofs.Joining.{adds_other, adds_much, adds_last, adds_more}
use Rattle.hub.proofs.add.Goals as goal
use Rattle.hub.proofs.add.Goals.{then-other_type-via-then-other_type, then-other_type-via-else-other_type+then-piece-at}

pub returns-then-other_type : goal.returns-then-other_type
returns-then-other_type c =
    elim c.then-other_type.branch [
      | then-other_type-via-then-other_type w ↦ adds_other c.args.held.sound c.told-gather c.requires c.other_type.ensures w.if-other_type.true c.bar.ensures
      | then-other_type-via-else-other_type+then-piece-at w ↦ adds_much c.args.held.sound c.told-gather c.requires c.other_type.ensures w.if-other_type.false (omega arith) c.bar.ensures
    ]

pub returns-then-packets-eq0 : goal.returns-then-packets-eq0
returns-then-packets-eq0 c = adds_last c.args.held.sound c.told-gather c.requires c.other_type.ensures c.if-other_type.false (omega arith) c.args.packets.headed c.if-packets-eq0.true c.hand_out.ensures

pub returns : goal.returns
returns c = adds_more c.args.held.sound c.told-gather c.requires c.other_type.ensures c.if-other_type.false (omega arith) c.args.packets.headed c.if-packets-eq0.false c.keep.ensures
