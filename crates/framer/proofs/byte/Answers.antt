-- `framer::byte` meets its contract: the check on the bytes so far, and one law for each answer. Assumes nothing.
use mathlib.Core.Path.{refl}
use native.Mathlib.Omega.{arith}
use lib.ListN.{length-set, length-take}
use Rattle.framer.proofs.Steps.{byte_deaf, byte_packet, byte_refused}
use Rattle.framer.proofs.byte.Goals as goal

pub returns-then-framer : goal.returns-then-framer
returns-then-framer c = byte_deaf (omega arith) c.if-framer.true c.deaf.ensures

pub slice_bounds-check-end : goal.slice_bounds-check-end
slice_bounds-check-end c = simp length-set (omega arith)

pub slice_bounds-check-end-2 : goal.slice_bounds-check-end-2
slice_bounds-check-end-2 c = simp (length-take, length-set) (omega arith)

pub returns-in-Ok : goal.returns-in-Ok
returns-in-Ok c = byte_packet (omega arith) c.if-framer.false c.begun-at.ensures c.check.ensures c.in-Ok.is c.ended.ensures

pub returns-in-Err : goal.returns-in-Err
returns-in-Err c = byte_refused (omega arith) c.if-framer.false c.begun-at.ensures c.check.ensures c.in-Err.is refl c.unfinished.ensures
