-- `motikhund::control::gathering` meets its contract. Assumes nothing.
use Rattle.motikhund.proofs.Reading.{gathering_in_lem}
use Rattle.motikhund.proofs.control.gathering.Goals as goal

pub returns : goal.returns
returns c = gathering_in_lem c.number.ensures
