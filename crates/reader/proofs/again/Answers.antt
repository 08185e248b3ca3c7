-- `reader::again` meets its contract: the answer that was kept goes out. Assumes nothing.
use lib.ListN.{length-take}
use native.Mathlib.Omega.{arith}
use Rattle.reader.proofs.Answering.{again_same, kept_fits}
use Rattle.reader.proofs.again.Goals as goal

pub slice_bounds-copy-end : goal.slice_bounds-copy-end
slice_bounds-copy-end c = simp length-take (omega arith)

pub returns : goal.returns
returns c = again_same (kept_fits c.args.answers.now c.requires c.told-answers) (omega arith) c.copy.ensures c.step.ensures
