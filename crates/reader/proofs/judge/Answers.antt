-- `reader::judge` meets its contract: 4 to 6 in their order, then the command. Assumes nothing.
use mathlib.Core.Path.{refl}
use Rattle.reader.proofs.Answering.{kept_fits}
use Rattle.reader.proofs.Judging.{judges_source, judges_status, judges_opcode, judges_known}
use Rattle.reader.proofs.judge.Goals as goal

pub returns-then-body-ne-HOST : goal.returns-then-body-ne-HOST
returns-then-body-ne-HOST c = judges_source (kept_fits c.args.answers.now c.requires c.told-answers) c.if-body-ne-HOST.true c.refuse.ensures

pub returns-then-not-status_allowed : goal.returns-then-not-status_allowed
returns-then-not-status_allowed c = judges_status (kept_fits c.args.answers.now c.requires c.told-answers) c.if-body-ne-HOST.false c.status_allowed.ensures c.if-not-status_allowed.true c.refuse-then-not-status_allowed.ensures

pub returns-in_default : goal.returns-in_default
returns-in_default c = judges_opcode (kept_fits c.args.answers.now c.requires c.told-answers) c.if-body-ne-HOST.false c.status_allowed.ensures c.if-not-status_allowed.false c.in_default.ensures refl c.refuse-in_default.ensures

pub returns : goal.returns
returns c = judges_known (kept_fits c.args.answers.now c.requires c.told-answers) c.if-body-ne-HOST.false c.status_allowed.ensures c.if-not-status_allowed.false c.in-Some.ensures refl c.known.ensures
