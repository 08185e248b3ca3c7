-- `control::permanent_changed` meets its contract: two arrays are compared. Assumes nothing.
use mathlib.Core.Path.{ap, ◌∙◌}
use mathlib.Core.Bool.{not}
use Rattle.words.proofs.Lists.{pointwise_same}
use Rattle.motikhund.proofs.Reading.{permanent_changed_lem}
use Rattle.motikhund.proofs.control.permanent_changed.Goals as goal

pub returns : goal.returns
returns c = permanent_changed_lem c.part.ensures (c.ne.ensures ∙ ap not (pointwise_same c.part.result c.args.after.device.table.permanent))
