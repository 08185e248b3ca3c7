-- `table::send_length_allowed` meets its contract: an odd number of bytes. Assumes nothing.
use Rattle.table.proofs.Changing.{send_length}
use Rattle.table.proofs.send_length_allowed.Goals as goal

pub returns : goal.returns
returns c = send_length
