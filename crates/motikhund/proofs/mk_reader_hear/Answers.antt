-- `motikhund::mk_reader_hear` meets its contract: 13, nothing, or the reader's call on what the bytes hold. Assumes nothing.
use native.Mathlib.Omega.{arith}
use Rattle.motikhund.proofs.Calls.{one_of_3, reader_13, reader_none, reader_hears_lem}
use Rattle.motikhund.proofs.mk_reader_hear.Goals as goal

pub returns-then-control-lt-READER_CONTROL_SIZE : goal.returns-then-control-lt-READER_CONTROL_SIZE
returns-then-control-lt-READER_CONTROL_SIZE c = reader_13 (one_of_3 c.then-control-lt-READER_CONTROL_SIZE.either)

pub returns-then-event-gt-LAST_EVENT : goal.returns-then-event-gt-LAST_EVENT
returns-then-event-gt-LAST_EVENT c = reader_none (omega arith) (omega arith) (omega arith) (omega arith)

pub returns : goal.returns
returns c = reader_hears_lem c.if-control-lt-READER_CONTROL_SIZE.false c.if-answer-lt-READER_ANSWER_SIZE.false c.if-copy-lt-PACKET_SIZE.false c.if-event-gt-LAST_EVENT.false c.reader.ensures c.event.ensures c.hear-taken.ensures c.permanent_changed-changed.ensures c.put_reader.ensures c.reader_values.ensures c.reader-2.ensures
