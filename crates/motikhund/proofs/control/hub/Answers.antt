-- `motikhund::control::hub` meets its contract. Assumes nothing.
use Rattle.motikhund.proofs.Reading.{hub_in_lem}
use Rattle.motikhund.proofs.control.hub.Goals as goal

pub returns : goal.returns
returns c = hub_in_lem c.halves.ensures c.gathering.ensures
