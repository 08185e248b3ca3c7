-- `framer::go_on` meets its contract: a message gap is left. Assumes nothing.
use Rattle.framer.proofs.Quick.{message_gap_left}
use Rattle.framer.proofs.go_on.Goals as goal

pub returns-in-MessageGap : goal.returns-in-MessageGap
returns-in-MessageGap c = message_gap_left c.in-MessageGap.is
