-- `motikhund::control::put_sender` meets its contract: the numbers behind four bytes. Assumes nothing.
use mathlib.Core.Path.{refl}
use native.Mathlib.Omega.{arith}
use Rattle.motikhund.proofs.Storing.{sender_put}
use Rattle.motikhund.proofs.control.put_sender.Goals as goal

pub returns : goal.returns
returns c = sender_put (omega arith) c.from.ensures c.from-2.ensures c.from-3.ensures c.put.ensures c.put_number.ensures refl c.put_number-2.ensures refl c.put_number-3.ensures refl c.put_number-4.ensures refl c.put_number-5.ensures
