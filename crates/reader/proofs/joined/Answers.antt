-- `reader::joined` meets its contract. Assumes nothing.
use mathlib.Core.Path.{refl}
use Rattle.reader.proofs.joined.Goals as goal

pub returns : goal.returns
returns c = record { is = refl }
