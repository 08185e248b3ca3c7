-- `motikhund::mk_go_on` meets its contract: the framer's short way between the two translations. Assumes nothing.
use Rattle.motikhund.proofs.Calls.{went_on_lem, went_awake, was_left}
use Rattle.motikhund.proofs.mk_go_on.Goals as goal

pub returns-in-On : goal.returns-in-On
returns-in-On c = went_on_lem c.framer-before.ensures c.event.ensures c.go_on.ensures c.in-On.is c.put_number.ensures

pub returns-in-Woken : goal.returns-in-Woken
returns-in-Woken c = went_awake c.framer-before.ensures c.event.ensures c.go_on.ensures c.in-Woken.is c.idle.ensures c.put_framer.ensures

pub returns-in-Left : goal.returns-in-Left
returns-in-Left c = was_left c.framer-before.ensures c.event.ensures c.go_on.ensures c.in-Left.is
