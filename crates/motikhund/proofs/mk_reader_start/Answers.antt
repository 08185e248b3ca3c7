-- `motikhund::mk_reader_start` meets its contract: 13, or the reader's call on what the bytes hold. Assumes nothing.
use Rattle.motikhund.proofs.Calls.{reader_refuses, reader_starts}
use Rattle.motikhund.proofs.mk_reader_start.Goals as goal
use Rattle.motikhund.proofs.mk_reader_start.Goals.{then-not-refused, else-not-refused}

pub returns : goal.returns
returns c = elim c.if-not-refused.branch [
  | then-not-refused w ↦ rw w.control-is (reader_starts c.if-control-lt-READER_CONTROL_SIZE.false c.if-copy-lt-PACKET_SIZE.false c.reader.ensures c.start-started.ensures c.start_values.ensures c.refused.ensures w.if-not-refused.true w.put_reader.ensures c.outcome.ensures)
  | else-not-refused w ↦ rw w.control-is (reader_refuses c.if-control-lt-READER_CONTROL_SIZE.false c.if-copy-lt-PACKET_SIZE.false c.reader.ensures c.start-started.ensures c.start_values.ensures c.refused.ensures w.if-not-refused.false c.outcome.ensures)
]
