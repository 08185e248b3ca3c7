-- `packet::check` meets its contract: the packet that it finds, and a length below 4; its other refusals follow from the definition. Assumes nothing.
use borrow.Author.Rules.{rules}
use native.Mathlib.Omega.{arith}
use Rattle.packet.proofs.Judge.{check_right, check_short}
use Rattle.packet.proofs.check.Goals as goal

pub returns-then-n-lt-HEAD_SIZE : goal.returns-then-n-lt-HEAD_SIZE
returns-then-n-lt-HEAD_SIZE c = check_short (search rules) (omega arith)

pub returns : goal.returns
returns c = check_right c.from-n.ensures (omega arith) (omega arith) c.checksum.ensures (omega arith)
