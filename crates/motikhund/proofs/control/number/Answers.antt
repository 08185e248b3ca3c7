-- `motikhund::control::number` meets its contract: eight bytes, low byte first. Assumes nothing.
use Rattle.motikhund.proofs.Reading.{number_in_lem}
use Rattle.motikhund.proofs.control.number.Goals as goal

pub returns : goal.returns
returns c = number_in_lem c.part.ensures c.from_le_bytes.ensures
