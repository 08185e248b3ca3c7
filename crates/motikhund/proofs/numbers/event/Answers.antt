-- `motikhund::numbers::event` meets its contract: a case for each return. Assumes nothing.
use native.Mathlib.Omega.{arith}
use Rattle.motikhund.proofs.Telling.{event_byte, event_gap, event_message_gap}
use Rattle.motikhund.proofs.numbers.event.Goals as goal

pub returns-in-0-to-255 : goal.returns-in-0-to-255
returns-in-0-to-255 c = event_byte (omega arith)

pub returns-in-256 : goal.returns-in-256
returns-in-256 c = event_gap c.in-256.is

pub returns-in_default : goal.returns-in_default
returns-in_default c = event_message_gap (omega arith) (λ e. omega arith)
