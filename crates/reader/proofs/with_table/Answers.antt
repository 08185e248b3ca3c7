-- `reader::with_table` meets its contract: the fields are put together. Assumes nothing.
use mathlib.Core.Path.{refl}
use Rattle.reader.proofs.with_table.Goals as goal

pub returns : goal.returns
returns c = record { is = refl }
