-- `sender::out_step` meets its contract: one function for each thing heard; NAK 1 is as a time-out. Assumes nothing.
use borrow.Author.Rules.{rules}
use Rattle.sender.proofs.Answering.{out_as, out_nothing, denied_again, denied_failed}
use Rattle.sender.proofs.out_step.Goals as goal
use Rattle.sender.proofs.out_step.Goals.{in-Nak+else-cause-ne1, in-TimeOut-1}

pub returns-in-TimeOut : goal.returns-in-TimeOut
returns-in-TimeOut c =
    elim c.in-TimeOut-1.branch [
      | in-Nak+else-cause-ne1 w ↦ out_as w.in-Nak.is (denied_again c.args.busy.out w.if-cause-ne1.false c.again.ensures)
      | in-TimeOut-1 w ↦ out_as (search rules) c.again.ensures
    ]

pub returns-in-Nak : goal.returns-in-Nak
returns-in-Nak c = out_as c.in-Nak.is (denied_failed c.args.busy.out c.if-cause-ne1.true c.failed.ensures)

pub returns-in-Nothing : goal.returns-in-Nothing
returns-in-Nothing c = out_nothing c.in-Nothing.is c.args.busy.out
