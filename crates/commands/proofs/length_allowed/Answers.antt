-- `commands::length_allowed` meets its contract: a case for each command. Assumes nothing.
use Rattle.std.proofs.Common.{arith}
use Rattle.commands.specs.Commands.{length_allowed}
use Rattle.commands.specs.declared.Command.TheVariants.{ParamSend, ParamRequest}
use Rattle.commands.proofs.Commanding.{length_as}
use Rattle.commands.proofs.length_allowed.Goals as goal

pub returns-in-ParamSend : goal.returns-in-ParamSend
unfolding length_allowed
returns-in-ParamSend c = length_as ParamSend c.in-ParamSend.is c.send_length_allowed.ensures.is

pub returns-in-ParamRequest : goal.returns-in-ParamRequest
unfolding length_allowed
returns-in-ParamRequest c = length_as ParamRequest c.in-ParamRequest.is c.request_length_allowed.ensures.is

pub returns-in-Beep : goal.returns-in-Beep
unfolding length_allowed
returns-in-Beep c = grind arith

pub returns-in-ParamDefaults : goal.returns-in-ParamDefaults
unfolding length_allowed
returns-in-ParamDefaults c = grind arith
