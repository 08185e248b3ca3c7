-- `hub_lister::stream::run_on_streams` meets its contract: that of `run`, at its own buffers. Assumes nothing.
use Rattle.hub_lister.proofs.stream.run_on_streams.Goals as goal

pub returns : goal.returns
returns g c = record { line = _; gather = _; ran = c.run.ensures }
