-- `motikhund::control::device` meets its contract. Assumes nothing.
use Rattle.motikhund.proofs.Reading.{device_in_lem}
use Rattle.motikhund.proofs.control.device.Goals as goal

pub returns : goal.returns
returns c = device_in_lem c.table.ensures
