-- `motikhund::mk_hub_on` meets its contract: 13, or a hub just switched on in bytes. Assumes nothing.
use Rattle.motikhund.proofs.Calls.{hub_made}
use native.Mathlib.Omega.{arith}
use Rattle.motikhund.proofs.mk_hub_on.Goals as goal

pub returns : goal.returns
returns c = hub_made (omega arith) c.switched_on.ensures c.put_hub.ensures
