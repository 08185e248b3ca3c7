-- `reader::accepted` meets its contract: a command that was acted on is accepted. Assumes nothing.
use mathlib.Core.Path.{refl}
use Rattle.reader.proofs.accepted.Goals as goal

pub returns-in-Acted : goal.returns-in-Acted
returns-in-Acted c = record { is = rw c.in-Acted.is refl }
