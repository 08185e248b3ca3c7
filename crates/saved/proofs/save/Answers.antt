-- `saved::save` meets its contract: 13, then the form. Assumes nothing.
use native.Mathlib.Omega.{arith}
use Rattle.saved.proofs.Writing.{save_small, save_whole}
use Rattle.saved.proofs.save.Goals as goal

pub returns-then-room-lt-SET_SIZE : goal.returns-then-room-lt-SET_SIZE
returns-then-room-lt-SET_SIZE c = save_small (omega arith)

pub returns : goal.returns
returns c = save_whole (omega arith) c.put.ensures
