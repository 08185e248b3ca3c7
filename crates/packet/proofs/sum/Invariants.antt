-- `packet::sum` meets its contract: at each turn the bytes passed are summed. Assumes nothing.
use Rattle.packet.proofs.Sums.{Summing}
use Rattle.packet.proofs.sum.Given as goal

abbrev pub invariant-loop-byte : goal.invariant-loop-byte
invariant-loop-byte l = Summing l.s l.total l.byte-index
