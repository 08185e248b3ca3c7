-- `framer::pause` meets its contract: a deaf framer wakes, an idle one rests, and a packet begun is left. Assumes nothing.
use native.Mathlib.Omega.{arith}
use Rattle.framer.proofs.Quick.{pause_woken, pause_on, pause_left}
use Rattle.framer.proofs.pause.Goals as goal

pub returns-then-framer : goal.returns-then-framer
returns-then-framer c = pause_woken c.told-buffer (record { each = c.fits-buffer }) c.if-framer.true

pub returns-in-0 : goal.returns-in-0
returns-in-0 c = pause_on c.told-buffer (record { each = c.fits-buffer }) c.if-framer.false c.begun.ensures (omega arith)

pub returns-in_default : goal.returns-in_default
returns-in_default c = pause_left c.told-buffer (record { each = c.fits-buffer }) c.if-framer.false c.begun.ensures (omega arith)
