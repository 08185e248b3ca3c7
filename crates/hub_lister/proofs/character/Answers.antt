-- `hub_lister::character` meets its contract: one law for each token. Assumes nothing.
use native.Mathlib.Omega.{arith}
use Rattle.hub_lister.proofs.Events.{skipped, byte_heard, gap_heard, message_gap_heard, stop_read}
use Rattle.hub_lister.proofs.character.Goals as goal
use Rattle.hub_lister.proofs.character.Goals.{in-Byte, in-CharacterGap, in-MessageGap}

pub returns-in-Nothing : goal.returns-in-Nothing
returns-in-Nothing c = skipped c.take-taken.ensures (omega arith) c.in-Nothing.is

pub returns-in-Sign : goal.returns-in-Sign
returns-in-Sign c = stop_read c.take-taken.ensures c.in-Sign.is c.stop.ensures

pub returns : goal.returns
returns c =
    elim c.match-taken.branch [
      | in-Byte w ↦ byte_heard c.take-taken.ensures w.in-Byte.is (rw w.event-is at c.happen.ensures)
      | in-CharacterGap w ↦ gap_heard c.take-taken.ensures w.in-CharacterGap.is (rw w.event-is at c.happen.ensures)
      | in-MessageGap w ↦ message_gap_heard c.take-taken.ensures w.in-MessageGap.is (rw w.event-is at c.happen.ensures)
    ]
