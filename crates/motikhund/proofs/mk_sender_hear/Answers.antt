-- `motikhund::mk_sender_hear` meets its contract: 13, or the sender's call on what the bytes hold. Assumes nothing.
use native.Mathlib.Omega.{arith}
use Rattle.motikhund.proofs.Calls.{sender_hears_lem}
use Rattle.motikhund.proofs.mk_sender_hear.Goals as goal

pub returns : goal.returns
returns c = sender_hears_lem (omega arith) (omega arith) c.sender.ensures c.heard.ensures c.hear-sending.ensures c.put_sender.ensures c.outcome_value.ensures c.outcome.ensures
