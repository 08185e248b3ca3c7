-- `packet::equal_unmarked` meets its contract: the comparison in three parts, left at the first difference. Assumes nothing.
use native.Mathlib.Omega.{arith}
use Rattle.words.proofs.Lists.{compared}
use Rattle.packet.proofs.Marks.{equal_length, equal_short, equal_front, equal_status, equal_rest}
use Rattle.packet.proofs.equal_unmarked.Goals as goal
use Rattle.packet.proofs.equal_unmarked.Goals.{then-eq, else-eq}

pub returns-then-a-b : goal.returns-then-a-b
returns-then-a-b c = equal_length c.if-a-b.true

pub returns-then-a-lt-HEAD_SIZE : goal.returns-then-a-lt-HEAD_SIZE
returns-then-a-lt-HEAD_SIZE c = equal_short (omega arith) (omega arith) (compared c.eq.ensures)

pub returns-then-a-b-2 : goal.returns-then-a-b-2
returns-then-a-b-2 c = elim c.if-eq.branch [
  | then-eq w ↦ equal_rest (omega arith) (omega arith) (compared c.eq-2.ensures) w.if-eq.true w.value-is c.if-a-b-2.true (compared c.eq-then-a-b-2.ensures)
  | else-eq w ↦ let z = w.value-is in absurd (cc)
]

pub returns-else-a-b-2 : goal.returns-else-a-b-2
returns-else-a-b-2 c = elim c.if-eq.branch [
  | then-eq w ↦ equal_status (omega arith) (omega arith) (compared c.eq-2.ensures) w.if-eq.true w.value-is c.if-a-b-2.false
  | else-eq w ↦ rw c.if-a-b-2.false (equal_front (omega arith) (omega arith) (compared c.eq-2.ensures) w.if-eq.false)
]
