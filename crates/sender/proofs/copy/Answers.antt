-- `sender::copy` meets its contract: type and piece are written as one, and filled around. Assumes nothing.
use native.Mathlib.Omega.{arith}
use Rattle.words.proofs.Lists.{copied_exact}
use Rattle.sender.proofs.Copying.{copy_fills}
use Rattle.sender.proofs.copy.Goals as goal

pub returns : goal.returns
returns c = copy_fills _ c.requires.0 c.told-room c.requires.1 (omega arith) (copied_exact (omega arith) c.copy.ensures) c.fill.ensures c.size_of.ensures
