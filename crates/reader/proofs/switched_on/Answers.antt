-- `reader::switched_on` meets its contract: its parts are those of a reader just switched on. Assumes nothing.
use mathlib.Core.Path.{refl}
use Rattle.reader.proofs.switched_on.Goals as goal

pub returns : goal.returns
returns c = record { is = rw (c.power_up.ensures.is, c.idle_halves.ensures.is, c.idle.ensures.is) refl }
