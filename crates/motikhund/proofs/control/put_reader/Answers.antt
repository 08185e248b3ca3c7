-- `motikhund::control::put_reader` meets its contract: number, device and sender behind the line. Assumes nothing.
use mathlib.Core.Path.{refl}
use Rattle.motikhund.proofs.Storing.{reader_put}
use Rattle.motikhund.proofs.control.put_reader.Goals as goal

pub returns : goal.returns
returns c = reader_put c.requires c.put_halves.ensures c.put_number.ensures refl c.put_device.ensures refl c.put_sender.ensures
