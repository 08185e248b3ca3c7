-- `sender::waits` meets its contract. Assumes nothing.
use Rattle.sender.proofs.Answering.{waits_is}
use Rattle.sender.proofs.waits.Goals as goal

pub returns : goal.returns
returns c = waits_is c.sound.ensures
