-- `reader::nak` meets its contract: a NAK if 9Fh is 1. Assumes nothing.
use native.Mathlib.Omega.{arith}
use Rattle.packet.specs.Opcodes.{reader}
use Rattle.packet.specs.Refusals.{nak_bytes}
use Rattle.reader.proofs.Answering.{says_nak, says_nothing}
use Rattle.reader.proofs.nak.Goals as goal

pub returns-then-handshake : goal.returns-then-handshake
returns-then-handshake c = says_nak c.handshake.ensures c.if-handshake.true (omega arith) c.nak.ensures c.size_of.ensures

pub returns : goal.returns
returns c = says_nothing c.handshake.ensures (nak_bytes reader c.args.refusal) c.if-handshake.false
