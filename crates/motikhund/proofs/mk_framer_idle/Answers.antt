-- `motikhund::mk_framer_idle` meets its contract: 13, or an idle framer in bytes. Assumes nothing.
use Rattle.motikhund.proofs.Calls.{framer_made}
use native.Mathlib.Omega.{arith}
use Rattle.motikhund.proofs.mk_framer_idle.Goals as goal

pub returns : goal.returns
returns c = framer_made (omega arith) c.idle.ensures c.put_framer.ensures
