-- `motikhund::control::sender` meets its contract. Assumes nothing.
use Rattle.motikhund.proofs.Reading.{sender_in_lem}
use Rattle.motikhund.proofs.control.sender.Goals as goal

pub returns : goal.returns
returns c = sender_in_lem c.number.ensures c.number-2.ensures c.number-3.ensures c.number-4.ensures c.number-5.ensures
