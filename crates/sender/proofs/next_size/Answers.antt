-- `sender::next_size` meets its contract: the rest, a piece cut shorter, a full one. Assumes nothing.
use mathlib.Core.Path.{sym}
use mathlib.Core.Bool.{true, false}
use native.Mathlib.Omega.{arith}
use lib.Seq.{length-take-le}
use Rattle.sender.proofs.Copying.{next_is, next_compared}
use Rattle.sender.proofs.Cutting.{next_last}
use Rattle.sender.proofs.next_size.Goals as goal

pub slice_bounds-full-end : goal.slice_bounds-full-end
slice_bounds-full-end c = sym (length-take-le 250 c.args.rest.now (omega arith))

pub returns-then-rest-le-PIECE_SIZE : goal.returns-then-rest-le-PIECE_SIZE
returns-then-rest-le-PIECE_SIZE c = next_is (next_last c.args.before.now c.args.rest.now (omega arith))

pub returns-then-eq : goal.returns-then-eq
returns-then-eq c = next_compared true (omega arith) c.if-eq.ensures

pub returns-else-eq : goal.returns-else-eq
returns-else-eq c = next_compared false (omega arith) c.if-eq.ensures
