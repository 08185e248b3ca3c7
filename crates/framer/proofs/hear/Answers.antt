-- `framer::hear` meets its contract: 13, then the event. Assumes nothing.
use native.Mathlib.Omega.{arith}
use Rattle.framer.proofs.Steps.{hear_room, hear_gap}
use Rattle.framer.proofs.hear.Goals as goal

pub returns-then-line-lt-PACKET_SIZE : goal.returns-then-line-lt-PACKET_SIZE
returns-then-line-lt-PACKET_SIZE c = hear_room (omega arith)

pub returns-in-CharacterGap : goal.returns-in-CharacterGap
returns-in-CharacterGap c = hear_gap c.in-CharacterGap.is (omega arith) c.gap.ensures
