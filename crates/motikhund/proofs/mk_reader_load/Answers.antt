-- `motikhund::mk_reader_load` meets its contract: 12 or 13, or the reader's call on what the bytes hold. Assumes nothing.
use native.Mathlib.Omega.{arith}
use Rattle.motikhund.specs.Lent.{here}
use Rattle.motikhund.proofs.Calls.{load_13, reader_loads, reader_unread}
use Rattle.motikhund.proofs.mk_reader_load.Goals as goal

pub returns-then-control-lt-READER_CONTROL_SIZE : goal.returns-then-control-lt-READER_CONTROL_SIZE
returns-then-control-lt-READER_CONTROL_SIZE c = load_13 (here (omega arith)) c.load.ensures c.told.ensures

pub returns-in-Ok : goal.returns-in-Ok
returns-in-Ok c = reader_loads (omega arith) c.reader.ensures c.in-Ok.ensures c.put_reader.ensures

pub returns-in-Err : goal.returns-in-Err
returns-in-Err c = reader_unread (omega arith) c.reader.ensures c.in-Err.ensures c.refusal.ensures
