-- `motikhund::mk_reader_locked` meets its contract: 13, or the table's call on what the bytes hold. Assumes nothing.
use native.Mathlib.Omega.{arith}
use Rattle.motikhund.proofs.Calls.{reader_locked}
use Rattle.motikhund.proofs.mk_reader_locked.Goals as goal

pub returns : goal.returns
returns c = reader_locked (omega arith) c.reader-before.ensures c.locked.ensures c.from.ensures
