-- `reader::refuse` meets its contract: a NAK with the refusal's cause. Assumes nothing.
use Rattle.reader.proofs.Answering.{refuses_nak}
use Rattle.reader.proofs.refuse.Goals as goal

pub returns : goal.returns
returns c = refuses_nak c.nak-count.ensures c.step.ensures
