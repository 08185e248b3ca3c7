-- `listing::write` meets its contract: one run of bytes behind those that stand there. Assumes nothing.
use mathlib.Core.Path.{refl}
use native.Mathlib.Omega.{arith}
use Rattle.listing.proofs.Lines.{run_written}
use Rattle.listing.proofs.write.Goals as goal

pub returns : goal.returns
returns c = record { writes = run_written (omega arith) c.copy_from_slice.ensures.after (omega arith); page = record { room = refl } }
