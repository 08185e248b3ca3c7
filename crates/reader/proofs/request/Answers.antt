-- `reader::request` meets its contract: the pairs stand in the room, and header and checksum are filled in around them. Assumes nothing.
use native.Mathlib.Omega.{arith}
use Rattle.reader.proofs.Answering.{request_filled, request_never}
use Rattle.reader.proofs.request.Goals as goal

pub returns-in-Ok : goal.returns-in-Ok
returns-in-Ok c = request_filled (omega arith) c.in-Ok.ensures (omega arith) c.fill.ensures c.size_of.ensures

pub returns-in-Err : goal.returns-in-Err
returns-in-Err c = request_never (omega arith) c.in-Err.ensures
