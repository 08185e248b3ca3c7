-- `motikhund::control::put_device` meets its contract: four flags behind the table. Assumes nothing.
use native.Mathlib.Omega.{arith}
use Rattle.motikhund.proofs.Storing.{device_put}
use Rattle.motikhund.proofs.control.put_device.Goals as goal

pub returns : goal.returns
returns c = device_put (omega arith) c.from.ensures c.from-2.ensures c.from-3.ensures c.from-4.ensures c.put_table.ensures c.put.ensures
