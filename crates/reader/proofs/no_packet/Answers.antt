-- `reader::no_packet` meets its contract: nothing goes out while the sender waits. Assumes nothing.
use Rattle.reader.proofs.Answering.{no_packet_waits, no_packet_refuses}
use Rattle.reader.proofs.no_packet.Goals as goal

pub returns-then-waits : goal.returns-then-waits
returns-then-waits c = no_packet_waits c.waits.ensures c.if-waits.true c.step.ensures

pub returns : goal.returns
returns c = no_packet_refuses c.waits.ensures c.if-waits.false c.refuse.ensures
