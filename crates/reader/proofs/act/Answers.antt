-- `reader::act` meets its contract: the answer goes out and is kept. Assumes nothing.
use Rattle.reader.proofs.Answering.{acts_answered}
use Rattle.reader.proofs.act.Goals as goal

pub returns : goal.returns
returns c = acts_answered c.told-answers c.answer_to-count.ensures c.copy.ensures c.step.ensures
