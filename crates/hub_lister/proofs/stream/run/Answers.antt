-- `hub_lister::stream::run` meets its contract: each read goes on with the session. Assumes nothing.
use Rattle.hub_lister.proofs.Theorems.{begins}
use Rattle.hub_lister.proofs.stream.run.Goals as goal

pub returns-then-room-lt-LINES_SIZE : goal.returns-then-room-lt-LINES_SIZE
returns-then-room-lt-LINES_SIZE g c = begins _ _ c.start-lister.ensures

pub loop-init : goal.loop-init
loop-init g c = begins _ _ c.start-lister.ensures
