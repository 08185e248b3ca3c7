-- `motikhund::mk_reader_switches` meets its contract: 13, or what the bytes hold. Assumes nothing.
use native.Mathlib.Omega.{arith}
use Rattle.motikhund.proofs.Calls.{reader_switches}
use Rattle.motikhund.proofs.mk_reader_switches.Goals as goal

pub returns : goal.returns
returns c = reader_switches (omega arith) c.reader-before.ensures c.switches.ensures
