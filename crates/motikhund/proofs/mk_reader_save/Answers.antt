-- `motikhund::mk_reader_save` meets its contract: 13, or the set's call on what the bytes hold. Assumes nothing.
use native.Mathlib.Omega.{arith}
use Rattle.motikhund.proofs.Calls.{reader_saves}
use Rattle.motikhund.proofs.mk_reader_save.Goals as goal

pub returns : goal.returns
returns c = reader_saves (omega arith) c.reader-before.ensures c.save-written.ensures c.size_of.ensures c.told.ensures
