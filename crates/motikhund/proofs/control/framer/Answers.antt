-- `motikhund::control::framer` meets its contract. Assumes nothing.
use Rattle.motikhund.proofs.Reading.{framer_in_lem}
use Rattle.motikhund.proofs.control.framer.Goals as goal

pub returns : goal.returns
returns c = framer_in_lem c.number.ensures
