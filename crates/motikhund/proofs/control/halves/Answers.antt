-- `motikhund::control::halves` meets its contract. Assumes nothing.
use Rattle.motikhund.proofs.Reading.{halves_in_lem}
use Rattle.motikhund.proofs.control.halves.Goals as goal

pub returns : goal.returns
returns c = halves_in_lem c.framer.ensures c.number.ensures
