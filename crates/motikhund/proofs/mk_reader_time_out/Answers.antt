-- `motikhund::mk_reader_time_out` meets its contract: 13, or the reader's call on what the bytes hold. Assumes nothing.
use Rattle.motikhund.proofs.Calls.{reader_times_out}
use Rattle.motikhund.proofs.mk_reader_time_out.Goals as goal

pub returns : goal.returns
returns c = reader_times_out c.if-control-lt-READER_CONTROL_SIZE.false c.if-copy-lt-PACKET_SIZE.false c.reader.ensures c.time_out-started.ensures c.put_reader.ensures c.outcome_value.ensures c.outcome.ensures
