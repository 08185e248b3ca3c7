-- `reader::perform` meets its contract: the command is denied, or acted on. Assumes nothing.
use Rattle.reader.proofs.Answering.{kept_fits}
use Rattle.reader.proofs.Judging.{performs_denied, performs_done}
use Rattle.reader.proofs.perform.Goals as goal

pub returns-in-Ok : goal.returns-in-Ok
returns-in-Ok c = performs_done c.in-Ok.ensures c.act-in-Ok.ensures

pub returns-in-Err : goal.returns-in-Err
returns-in-Err c = performs_denied (kept_fits c.args.answers.now c.requires c.told-answers) c.in-Err.ensures c.refuse.ensures
