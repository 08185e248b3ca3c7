-- `reader::quiet` meets its contract: all but the line's part is as it was. Assumes nothing.
use mathlib.Core.Path.{refl}
use Rattle.reader.proofs.quiet.Goals as goal

pub returns : goal.returns
returns c = record { is = refl }
