-- `hub_lister::stream::tell` meets its contract: each turn takes at least one character, and the session goes on. Assumes nothing.
use lib.ListN.{length}
use Rattle.hub_lister.specs.Promises.{Ran}
use Rattle.hub_lister.proofs.stream.tell.Given as goal

abbrev pub invariant-loop-present : goal.invariant-loop-present
invariant-loop-present g l = Ran l.present l.line l.gather

abbrev pub decreases-loop-present : goal.decreases-loop-present
decreases-loop-present g l = length l.rest
