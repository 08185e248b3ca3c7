-- `motikhund::mk_reader_on` meets its contract: 13, or a reader with the house defaults in bytes. Assumes nothing.
use Rattle.motikhund.proofs.Calls.{reader_made}
use native.Mathlib.Omega.{arith}
use Rattle.motikhund.proofs.mk_reader_on.Goals as goal

pub returns : goal.returns
returns c = reader_made (omega arith) c.defaults-table.ensures c.switched_on.ensures c.put_reader.ensures
