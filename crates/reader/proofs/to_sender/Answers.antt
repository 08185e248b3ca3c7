-- `reader::to_sender` meets its contract: the sender hears the packet. Assumes nothing.
use native.Mathlib.Omega.{arith}
use Rattle.reader.proofs.Answering.{sender_hears_lem}
use Rattle.reader.proofs.to_sender.Goals as goal

pub returns : goal.returns
returns c = sender_hears_lem (omega arith) c.data_part.ensures c.heed-heard.ensures c.hear-sending.ensures
