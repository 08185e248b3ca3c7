-- `reader::received` meets its contract: an answer goes to the sender, any other packet is judged with the last accepted one. Assumes nothing.
use native.Mathlib.Omega.{arith}
use Rattle.reader.proofs.Answering.{kept_fits}
use Rattle.reader.proofs.Hearing.{received_answer, received_command}
use Rattle.reader.proofs.received.Goals as goal

pub invariant_of-packets : goal.invariant_of-packets
invariant_of-packets c = let long = c.received.ensures.long (omega arith) in record { headed = omega arith }

pub returns-then-is_answer : goal.returns-then-is_answer
returns-then-is_answer c = received_answer c.received.ensures c.is_answer.ensures c.settle.ensures (kept_fits c.args.answers.now c.requires.0 c.told-answers) c.if-is_answer.true c.to_sender.ensures

pub returns : goal.returns
returns c = received_command c.received.ensures c.is_answer.ensures c.settle-2.ensures c.if-is_answer.false c.kept.ensures c.judge.ensures
