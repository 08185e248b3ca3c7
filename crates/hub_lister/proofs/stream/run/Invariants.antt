-- `hub_lister::stream::run` meets its contract: each read goes on with the session. Assumes nothing.
use Rattle.hub_lister.specs.Promises.{Ran}
use Rattle.hub_lister.proofs.stream.run.Given as goal

abbrev pub invariant-loop : goal.invariant-loop
invariant-loop g l = Ran l.lister l.line l.gather
