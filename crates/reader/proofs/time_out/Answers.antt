-- `reader::time_out` meets its contract: the sender's step, and the rest as it was. Assumes nothing.
use Rattle.reader.proofs.time_out.Goals as goal

pub returns : goal.returns
returns c = let k = c.hear in
    record { sending' = k.result; hears = k.ensures; is = c.sent.ensures.is }
