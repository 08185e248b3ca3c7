-- `motikhund::mk_hub_hear` meets its contract: 13, nothing, or the hub's call on what the bytes hold. Assumes nothing.
use native.Mathlib.Omega.{arith}
use Rattle.motikhund.proofs.Calls.{one_of_3, hub_13, hub_none, hub_hears_lem}
use Rattle.motikhund.proofs.mk_hub_hear.Goals as goal

pub returns-then-control-lt-HUB_CONTROL_SIZE : goal.returns-then-control-lt-HUB_CONTROL_SIZE
returns-then-control-lt-HUB_CONTROL_SIZE c = hub_13 (one_of_3 c.then-control-lt-HUB_CONTROL_SIZE.either)

pub returns-then-event-gt-LAST_EVENT : goal.returns-then-event-gt-LAST_EVENT
returns-then-event-gt-LAST_EVENT c = hub_none (omega arith) (omega arith) (omega arith) (omega arith)

pub returns : goal.returns
returns c = hub_hears_lem c.if-control-lt-HUB_CONTROL_SIZE.false c.if-answer-lt-HUB_ANSWER_SIZE.false c.if-message-lt-MESSAGE_SIZE.false c.if-event-gt-LAST_EVENT.false c.hub.ensures c.event.ensures c.hear-taken.ensures c.put_hub.ensures c.hub_values.ensures c.hub-2.ensures
