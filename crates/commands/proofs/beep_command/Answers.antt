-- `commands::beep_command` meets its contract: an allowed code is reported, another denied. Assumes nothing.
use Rattle.commands.proofs.Commanding.{handed_on, sounds, unsounded}
use Rattle.commands.proofs.beep_command.Goals as goal

pub returns-in_err-beep : goal.returns-in_err-beep
returns-in_err-beep c = handed_on c.from_residual.ensures.1 (unsounded c.args.device c.report.ensures c.in_err-beep.ensures.ok_part c.in_err-beep.ensures.value)

pub returns : goal.returns
returns c = sounds c.args.device c.report.ensures c.in_ok-beep.ensures.ok_part
