-- `packet::fill` meets its contract: header and checksum around the data; what it refuses follows from the definition. Assumes nothing.
use mathlib.Core.Path.{refl}
use native.Mathlib.Omega.{arith}
use Rattle.packet.proofs.Writing.{fill_written}
use Rattle.packet.proofs.fill.Goals as goal

pub returns : goal.returns
returns c = fill_written (omega arith) c.in_ok-size.ensures c.header.ensures refl c.seal.ensures
