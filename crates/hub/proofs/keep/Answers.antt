-- `hub::keep` meets its contract: the piece stands behind those that wait. Assumes nothing.
use Rattle.std.proofs.Common.{rules}
use Rattle.words.proofs.Lists.{copied_exact}
use Rattle.hub.proofs.Joining.{keeps}
use Rattle.hub.proofs.keep.Goals as goal

pub returns : goal.returns
returns c = keeps (copied_exact (search rules) c.copy.ensures)
