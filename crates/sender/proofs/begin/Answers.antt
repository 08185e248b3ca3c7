-- `sender::begin` meets its contract: the gap from what stands in the buffer, then the message copied and its first packet. Assumes nothing.
use native.Mathlib.Omega.{arith}
use Rattle.sender.proofs.Answering.{begin_copy, begun_out_by}
use Rattle.sender.proofs.Copying.{copies_as}
use Rattle.sender.proofs.begin.Goals as goal

pub invariant_of-next : goal.invariant_of-next
invariant_of-next c = record { out = begun_out_by c.args.code (omega arith) c.idle.ensures c.next_size.ensures }

pub returns : goal.returns
returns c = begin_copy c.idle.ensures (omega arith) c.copy.ensures c.gap_due-gap.ensures c.next_size.ensures (copies_as c.present-size.ensures)
