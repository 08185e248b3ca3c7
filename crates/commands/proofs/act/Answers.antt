-- `commands::act` meets its contract: 7 denies, or the command is acted on. Assumes nothing.
use Rattle.commands.proofs.Commanding.{denied_by, fits, judged_acts, judged_data}
use Rattle.commands.proofs.act.Goals as goal

pub act_on-requires : goal.act_on-requires
act_on-requires c = fits c.length_allowed.ensures c.if-not-length_allowed.false

pub returns-then-not-length_allowed : goal.returns-then-not-length_allowed
returns-then-not-length_allowed c = denied_by (judged_data c.args.device c.args.status c.args.«data».now c.length_allowed.ensures c.if-not-length_allowed.true)

pub returns : goal.returns
returns c = judged_acts c.args.device c.args.status c.args.«data».now c.length_allowed.ensures c.if-not-length_allowed.false c.act_on.ensures
