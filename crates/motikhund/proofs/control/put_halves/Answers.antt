-- `motikhund::control::put_halves` meets its contract: flag and number behind the framer. Assumes nothing.
use mathlib.Core.Path.{refl}
use native.Mathlib.Omega.{arith}
use Rattle.motikhund.proofs.Storing.{halves_put}
use Rattle.motikhund.proofs.control.put_halves.Goals as goal

pub returns : goal.returns
returns c = halves_put (omega arith) c.put_framer.ensures c.from.ensures refl c.put_number.ensures
