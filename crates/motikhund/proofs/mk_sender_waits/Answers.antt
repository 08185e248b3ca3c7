-- `motikhund::mk_sender_waits` meets its contract: 13, or the sender's answer as a number. Assumes nothing.
use native.Mathlib.Omega.{arith}
use Rattle.motikhund.proofs.Calls.{sender_waits}
use Rattle.motikhund.proofs.mk_sender_waits.Goals as goal

pub returns-then-waits : goal.returns-then-waits
returns-then-waits c = sender_waits (omega arith) c.sender.ensures c.waits.ensures (rw c.if-waits.true (λ i. 123))
