-- `reader::ack` meets its contract: ACK if 9Fh is 1. Assumes nothing.
use native.Mathlib.Omega.{arith}
use Rattle.packet.specs.Opcodes.{reader}
use Rattle.packet.specs.Packet.{seal, reply_body}
use Rattle.packet.specs.declared.Reply.TheVariants.{Ack}
use Rattle.reader.proofs.Answering.{says_ack, says_nothing}
use Rattle.reader.proofs.ack.Goals as goal

pub returns-then-handshake : goal.returns-then-handshake
returns-then-handshake c = says_ack c.handshake.ensures c.if-handshake.true (omega arith) c.answer.ensures c.size_of.ensures

pub returns : goal.returns
returns c = says_nothing c.handshake.ensures (seal (reply_body reader Ack)) c.if-handshake.false
