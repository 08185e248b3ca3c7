-- `reader::start` meets its contract: the sender's start, and the rest as it was. Assumes nothing.
use Rattle.reader.proofs.start.Goals as goal

pub returns : goal.returns
returns c = let k = c.start in
    record { sending' = k.result; starts = k.ensures; is = c.sent.ensures.is }
