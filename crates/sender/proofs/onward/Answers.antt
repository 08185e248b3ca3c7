-- `sender::onward` meets its contract: the next packet, or delivered. Assumes nothing.
use native.Mathlib.Omega.{arith}
use Rattle.sender.proofs.Answering.{going_out_by, onward_next, onward_delivered}
use Rattle.sender.proofs.Copying.{copies_as}
use Rattle.sender.proofs.onward.Goals as goal

pub invariant_of-next : goal.invariant_of-next
invariant_of-next c = record { out = going_out_by c.args.buffer.now c.args.busy.out c.told-buffer (omega arith) c.next_size-size.ensures c.moved.ensures }

pub returns-then-end-sender : goal.returns-then-end-sender
returns-then-end-sender c = onward_next c.args.busy.out c.told-buffer (omega arith) c.next_size-size.ensures c.moved.ensures (copies_as c.present-size.ensures)

pub returns : goal.returns
returns c = onward_delivered c.args.busy.out c.told-buffer (omega arith) c.ended.ensures
