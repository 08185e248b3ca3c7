-- `sender::present` meets its contract: the more bit and the mark are its status. Assumes nothing.
use Rattle.sender.proofs.Copying.{present_as}
use Rattle.sender.proofs.present.Goals as goal

pub returns : goal.returns
returns c = present_as _ c.from.ensures c.from-2.ensures c.copy.ensures
