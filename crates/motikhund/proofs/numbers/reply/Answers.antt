-- `motikhund::numbers::reply` meets its contract: a case for each return. Assumes nothing.
use native.Mathlib.Omega.{arith}
use Rattle.motikhund.proofs.Telling.{reply_nak, reply_ack}
use Rattle.motikhund.proofs.numbers.reply.Goals as goal

pub returns-in-0-to-255 : goal.returns-in-0-to-255
returns-in-0-to-255 c = reply_nak (omega arith)

pub returns-in_default : goal.returns-in_default
returns-in_default c = reply_ack (omega arith)
