-- `motikhund::mk_sender_idle` meets its contract: 13, or an idle sender in bytes. Assumes nothing.
use Rattle.motikhund.proofs.Calls.{sender_made}
use native.Mathlib.Omega.{arith}
use Rattle.motikhund.proofs.mk_sender_idle.Goals as goal

pub returns : goal.returns
returns c = sender_made (omega arith) c.idle.ensures c.put_sender.ensures
