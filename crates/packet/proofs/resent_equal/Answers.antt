-- `packet::resent_equal` meets its contract: a marked body is compared, one that is not marked is no resend. Assumes nothing.
use native.Mathlib.Omega.{arith}
use Rattle.packet.proofs.Marks.{never_short, resent_marked, resent_plain, resent_short}
use Rattle.packet.proofs.resent_equal.Goals as goal
use Rattle.packet.proofs.resent_equal.Goals.{then-body-ge-HEAD_SIZE, else-body-ge-HEAD_SIZE}

pub returns-then-body-eq1 : goal.returns-then-body-eq1
returns-then-body-eq1 c = elim c.if-body-ge-HEAD_SIZE.branch [
  | then-body-ge-HEAD_SIZE w ↦ resent_marked w.value-is c.if-body-eq1.true c.equal_unmarked.ensures
  | else-body-ge-HEAD_SIZE w ↦ never_short c.if-body-eq1.true w.value-is (omega arith)
]

pub returns-else-body-eq1 : goal.returns-else-body-eq1
returns-else-body-eq1 c = elim c.if-body-ge-HEAD_SIZE.branch [
  | then-body-ge-HEAD_SIZE w ↦ resent_plain w.value-is c.if-body-eq1.false
  | else-body-ge-HEAD_SIZE w ↦ resent_short w.value-is (omega arith)
]
