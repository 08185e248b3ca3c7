-- `packet::fields` meets its contract: up to 251 bytes of data, and six more in the packet; what it refuses follows from the definition. Assumes nothing.
use native.Mathlib.Omega.{arith}
use Rattle.packet.proofs.Writing.{fields_right}
use Rattle.packet.proofs.fields.Goals as goal

pub returns : goal.returns
returns c = fields_right c.source_allowed.ensures c.if-not-source_allowed.false c.status_allowed.ensures c.if-not-status_allowed.false (omega arith)
