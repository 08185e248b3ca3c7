-- `hub_lister::hear` meets its contract: the loop keeps the run over the characters passed. Assumes nothing.
use Rattle.hub_lister.specs.Promises.{reading_of, lines_size, SameBuffers}
use Rattle.hub_lister.specs.Listing.{acts}
use Rattle.listing.proofs.Reading.{Listing}
use Rattle.hub_lister.proofs.hear.Given as goal

abbrev pub invariant-loop-taken : goal.invariant-loop-taken
invariant-loop-taken l = Listing acts lines_size (reading_of l.initial.present l.initial.buffers.line.now l.initial.buffers.gather.now) l.text l.initial.page (reading_of l.present l.buffers.line.now l.buffers.gather.now) l.page l.taken × SameBuffers l.initial.buffers l.buffers
