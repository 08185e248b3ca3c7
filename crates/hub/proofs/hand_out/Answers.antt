-- `hub::hand_out` meets its contract: what waits, and the last piece behind it. Assumes nothing.
use native.Mathlib.Omega.{arith}
use Rattle.std.proofs.Common.{rules}
use Rattle.words.proofs.Lists.{copied_exact}
use Rattle.hub.proofs.Joining.{hands_out_lem}
use Rattle.hub.proofs.hand_out.Goals as goal

pub returns : goal.returns
returns c = hands_out_lem (omega arith) (copied_exact (search rules) c.copy.ensures) (copied_exact (search rules) c.copy-2.ensures) c.closed.ensures
