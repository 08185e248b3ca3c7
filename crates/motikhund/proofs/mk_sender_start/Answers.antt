-- `motikhund::mk_sender_start` meets its contract: 13, or the sender's call on what the bytes hold. Assumes nothing.
use Rattle.motikhund.proofs.Calls.{sender_refuses, sender_starts}
use Rattle.motikhund.proofs.mk_sender_start.Goals as goal
use Rattle.motikhund.proofs.mk_sender_start.Goals.{then-not-refused, else-not-refused}

pub returns : goal.returns
returns c = elim c.if-not-refused.branch [
  | then-not-refused w ↦ rw w.control-is (sender_starts c.if-control-lt-SENDER_CONTROL_SIZE.false c.if-room-lt-PACKET_SIZE.false c.sender.ensures c.start-sending.ensures c.start_values.ensures c.refused.ensures w.if-not-refused.true w.put_sender.ensures c.outcome.ensures)
  | else-not-refused w ↦ rw w.control-is (sender_refuses c.if-control-lt-SENDER_CONTROL_SIZE.false c.if-room-lt-PACKET_SIZE.false c.sender.ensures c.start-sending.ensures c.start_values.ensures c.refused.ensures w.if-not-refused.false c.outcome.ensures)
]
