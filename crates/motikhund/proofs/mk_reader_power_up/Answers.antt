-- `motikhund::mk_reader_power_up` meets its contract: 13, or the reader's power-up between the two translations. Assumes nothing.
use Rattle.motikhund.proofs.Calls.{reader_woken}
use native.Mathlib.Omega.{arith}
use Rattle.motikhund.proofs.mk_reader_power_up.Goals as goal

pub returns : goal.returns
returns c = reader_woken (omega arith) c.reader.ensures c.power_up-next.ensures c.put_reader.ensures
