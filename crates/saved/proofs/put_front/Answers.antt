-- `saved::put_front` meets its contract: two stores. Assumes nothing.
use native.Mathlib.Omega.{arith}
use Rattle.saved.proofs.Writing.{front_put}
use Rattle.saved.proofs.put_front.Goals as goal

pub returns : goal.returns
returns c = front_put (omega arith)
