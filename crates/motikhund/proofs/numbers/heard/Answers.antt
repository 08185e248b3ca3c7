-- `motikhund::numbers::heard` meets its contract: a case for each return. Assumes nothing.
use native.Mathlib.Omega.{arith}
use Rattle.motikhund.proofs.Telling.{heard_nak, heard_ack, heard_time_out, heard_nothing}
use Rattle.motikhund.proofs.numbers.heard.Goals as goal

pub returns-in-0-to-255 : goal.returns-in-0-to-255
returns-in-0-to-255 c = heard_nak (omega arith)

pub returns-in-256 : goal.returns-in-256
returns-in-256 c = heard_ack c.in-256.is

pub returns-in-257 : goal.returns-in-257
returns-in-257 c = heard_time_out c.in-257.is

pub returns-in_default : goal.returns-in_default
returns-in_default c = heard_nothing (omega arith) (λ e. omega arith) (λ e. omega arith)
