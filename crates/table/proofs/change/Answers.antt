-- `table::change` meets its contract: at each turn the pairs passed are set, in the permanent values where it is asked. Assumes nothing.
use borrow.Author.Rules.{rules}
use Rattle.table.proofs.Changing.{changing_none, changing_both, changing_now, changed_all}
use Rattle.table.proofs.change.Goals as goal
use Rattle.table.proofs.change.Goals.{then-permanent, else-permanent}

pub loop-number-init : goal.loop-number-init
loop-number-init c = changing_none (search rules) (search rules)

pub put-requires : goal.put-requires
put-requires c = c.loop-number.invariant.now_set.full

pub put-requires-then-permanent : goal.put-requires-then-permanent
put-requires-then-permanent c = c.loop-number.invariant.ever_set.full

pub loop-number-preserved : goal.loop-number-preserved
loop-number-preserved c =
    elim c.if-permanent.branch [
      | then-permanent w ↦ rw w.next-is (changing_both c.loop-number.invariant c.loop-number-test.true c.put.ensures w.if-permanent.true w.put-then-permanent.ensures)
      | else-permanent w ↦ rw w.next-is (changing_now c.loop-number.invariant c.loop-number-test.true c.put.ensures w.if-permanent.false)
    ]

pub returns : goal.returns
returns c = changed_all c.loop-number.invariant c.loop-number-test.false
