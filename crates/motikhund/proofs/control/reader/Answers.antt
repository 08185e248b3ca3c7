-- `motikhund::control::reader` meets its contract. Assumes nothing.
use Rattle.motikhund.proofs.Reading.{reader_in_lem}
use Rattle.motikhund.proofs.control.reader.Goals as goal

pub returns : goal.returns
returns c = reader_in_lem c.halves.ensures c.number.ensures c.device.ensures c.sender.ensures
