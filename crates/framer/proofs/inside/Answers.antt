-- `framer::inside` meets its contract: one law for each test, and the byte stored. Assumes nothing.
use mathlib.Core.Logic.{inl, inr}
use native.Mathlib.Omega.{arith}
use Rattle.framer.proofs.Steps.{begun_count}
use Rattle.framer.proofs.Quick.{first_stands, first_comes, begun_zero, inside_low, inside_past, inside_stored}
use borrow.Author.Rules.{rules}
use Rattle.framer.proofs.inside.Goals as goal
use Rattle.framer.proofs.inside.Goals.{then-n-ne0+else-n-length+else-n-lt-PACKET_SIZE, else-n-ne0}

pub returns-then-length-lt-HEAD_SIZE : goal.returns-then-length-lt-HEAD_SIZE
returns-then-length-lt-HEAD_SIZE c = inside_low (search rules) (search rules) (begun_count (omega (arith, c.type_inv.line 0))) (first_stands (search rules) c.if-n-ne0.true c.from-length.ensures) c.if-length-lt-HEAD_SIZE.true

pub returns-then-n-length : goal.returns-then-n-length
returns-then-n-length c = inside_stored (search rules) (search rules) (begun_count (search rules)) (first_stands (search rules) c.if-n-ne0.true c.from-length.ensures) (omega arith) (omega arith)

pub returns-then-n-lt-PACKET_SIZE : goal.returns-then-n-lt-PACKET_SIZE
returns-then-n-lt-PACKET_SIZE c = inside_past (search rules) (search rules) (begun_count (omega arith)) (first_stands (search rules) c.if-n-ne0.true c.from-length.ensures) (omega arith)

pub returns-then-from-lt-HEAD_SIZE : goal.returns-then-from-lt-HEAD_SIZE
returns-then-from-lt-HEAD_SIZE c =
    inside_low (search rules) (search rules)
    (begun_zero (elim c.if-n-ne0.branch [ then-n-ne0+else-n-length+else-n-lt-PACKET_SIZE w ↦ inr w.if-n-lt-PACKET_SIZE.false | else-n-ne0 w ↦ inl w.if-n-ne0.false ]))
    (first_comes c.from.ensures)
    (omega arith)

pub returns : goal.returns
returns c =
    inside_stored (search rules) (search rules)
    (begun_zero (elim c.if-n-ne0.branch [ then-n-ne0+else-n-length+else-n-lt-PACKET_SIZE w ↦ inr w.if-n-lt-PACKET_SIZE.false | else-n-ne0 w ↦ inl w.if-n-ne0.false ]))
    (first_comes c.from.ensures)
    (omega arith)
    (omega arith)
