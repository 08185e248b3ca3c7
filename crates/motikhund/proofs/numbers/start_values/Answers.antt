-- `motikhund::numbers::start_values` meets its contract. Assumes nothing.
use mathlib.Core.Path.{refl}
use Rattle.motikhund.proofs.numbers.start_values.Goals as goal

pub returns : goal.returns
returns c = record { is = rw (c.outcome_value.ensures.is, c.from.ensures, c.outcome_gap.ensures.is) refl }
