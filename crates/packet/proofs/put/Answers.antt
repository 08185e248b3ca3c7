-- `packet::put` meets its contract: the data put into the room and filled around; what it refuses follows from the definition. Assumes nothing.
use native.Mathlib.Omega.{arith}
use Rattle.words.proofs.Lists.{copied_exact}
use Rattle.packet.proofs.Writing.{fields_small, put_written}
use Rattle.packet.proofs.put.Goals as goal

pub returns : goal.returns
returns c =
    let small = fields_small c.in_ok-fields.ensures in
    put_written (omega arith) c.in_ok-fields.ensures (omega arith) (copied_exact (omega arith) c.copy.ensures) c.fill.ensures
