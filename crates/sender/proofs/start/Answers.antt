-- `sender::start` meets its contract: 13, then 11, then the message is begun. Assumes nothing.
use native.Mathlib.Omega.{arith}
use Rattle.sender.proofs.Answering.{start_room, start_long, start_waits, start_copy}
use Rattle.sender.proofs.start.Goals as goal
use Rattle.sender.proofs.start.Goals.{then-message-gt-MESSAGE_SIZE-via-then-message-gt-MESSAGE_SIZE, then-message-gt-MESSAGE_SIZE-via-else-message-gt-MESSAGE_SIZE+then-now}

pub returns-in_default : goal.returns-in_default
returns-in_default c = start_room c.in_default.ensures.cases c.refused.ensures

pub returns-then-message-gt-MESSAGE_SIZE : goal.returns-then-message-gt-MESSAGE_SIZE
returns-then-message-gt-MESSAGE_SIZE c =
    let front = c.in-Some.ensures.cases in
    let refused = c.refused-then-message-gt-MESSAGE_SIZE.ensures in
    elim c.then-message-gt-MESSAGE_SIZE.branch [
      | then-message-gt-MESSAGE_SIZE-via-then-message-gt-MESSAGE_SIZE w ↦ rw w.room-is (start_long front refused w.if-message-gt-MESSAGE_SIZE.true)
      | then-message-gt-MESSAGE_SIZE-via-else-message-gt-MESSAGE_SIZE+then-now w ↦ rw w.room-is (start_waits front refused w.if-message-gt-MESSAGE_SIZE.false c.sound-now.ensures w.if-now.true)
    ]

pub returns : goal.returns
returns c = start_copy c.if-message-gt-MESSAGE_SIZE.false c.sound-now.ensures c.if-now.false c.in-Some.ensures.cases (omega arith) c.begin.ensures
