-- `reader::step` meets its contract: the fields are put together. Assumes nothing.
use mathlib.Core.Path.{refl}
use Rattle.reader.proofs.step.Goals as goal

pub returns : goal.returns
returns c = record { is = refl }
