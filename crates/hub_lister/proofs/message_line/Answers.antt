-- `hub_lister::message_line` meets its contract: one run of the code type and the message, or nothing. Assumes nothing.
use native.Mathlib.Omega.{arith}
use Rattle.hub_lister.proofs.Lines.{a_message, no_message}
use Rattle.hub_lister.proofs.message_line.Goals as goal

pub returns-in-Message : goal.returns-in-Message
returns-in-Message c = a_message c.in-Message.is (omega arith) (omega arith) (omega arith) c.put_line.ensures

pub returns-in_default : goal.returns-in_default
returns-in_default c = no_message c.in_default.not-Message (omega arith)
