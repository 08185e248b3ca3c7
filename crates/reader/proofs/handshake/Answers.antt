-- `reader::handshake` meets its contract: the value of 9Fh decides. Assumes nothing.
use Rattle.reader.proofs.Answering.{handshake_value}
use Rattle.reader.proofs.handshake.Goals as goal

pub returns : goal.returns
returns c = handshake_value c.value.ensures
