-- `sender::hear` meets its contract: 13, then the answer of a sound control value. Assumes nothing.
use native.Mathlib.Omega.{arith}
use Rattle.sender.proofs.Answering.{hear_room, hear_out, hear_nothing}
use Rattle.sender.proofs.Placing.{sounds_out}
use Rattle.sender.proofs.hear.Goals as goal

pub returns-in_default : goal.returns-in_default
returns-in_default c = hear_room c.in_default.ensures.cases c.refused.ensures

pub invariant_of-out_step : goal.invariant_of-out_step
invariant_of-out_step c = record { out = sounds_out c.sound-now.ensures c.if-now.true }

pub returns-then-now : goal.returns-then-now
returns-then-now c = let front = c.in-Some.ensures.cases in hear_out front.enough c.sound-now.ensures c.told-buffer front (omega arith) c.out_step.ensures

pub returns : goal.returns
returns c = let front = c.in-Some.ensures.cases in hear_nothing front.enough c.sound-now.ensures front c.if-now.false
