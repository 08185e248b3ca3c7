-- `sender::again` meets its contract: a marked copy, or failed. Assumes nothing.
use native.Mathlib.Omega.{arith}
use Rattle.sender.proofs.Answering.{resent_out_by, again_copy, again_failed}
use Rattle.sender.proofs.Copying.{copies_as}
use Rattle.sender.proofs.again.Goals as goal

pub invariant_of-next : goal.invariant_of-next
invariant_of-next c = record { out = resent_out_by c.args.busy.out (omega arith) c.moved.ensures }

pub returns-then-sender-lt-RESEND_LIMIT : goal.returns-then-sender-lt-RESEND_LIMIT
returns-then-sender-lt-RESEND_LIMIT c = again_copy c.args.busy.out (omega arith) c.moved.ensures (copies_as c.present-size.ensures)

pub returns : goal.returns
returns c = again_failed c.args.busy.out (omega arith) c.failed.ensures
