-- `commands::act_on` meets its contract: a case for each command. Assumes nothing.
use mathlib.Core.Path.{refl}
use Rattle.commands.specs.Commands.{length_allowed, effect, session_stopped, aim_to}
use Rattle.commands.specs.declared.Command.TheVariants.{ParamSend, ParamRequest, ParamDefaults, StartSession, StopSession, Beep, LedOn, LedOff, ScanEnable, ScanDisable, AimOn, AimOff}
use Rattle.commands.proofs.Commanding.{fit_send, fit_one, effect_as, effect_does}
use borrow.Author.Rules.{rules}
use Rattle.commands.proofs.act_on.Goals as goal
use Rattle.commands.proofs.act_on.Goals.{in-ParamRequest, in-StartSession, in-StopSession, in-LedOn, in-LedOff, in-ScanEnable, in-ScanDisable, in-AimOn, in-AimOff}

pub send-requires : goal.send-requires
send-requires c = fit_send c.in-ParamSend.is c.requires

pub returns-in-ParamSend : goal.returns-in-ParamSend
unfolding effect
returns-in-ParamSend c = effect_as c.args.device c.args.status c.args.«data».now ParamSend c.in-ParamSend.is refl c.send.ensures

pub bounds-data-0 : goal.bounds-data-0
unfolding length_allowed
bounds-data-0 c = let one = fit_one Beep c.in-Beep.is refl c.requires in
    search rules

pub returns-in-Beep : goal.returns-in-Beep
unfolding effect
returns-in-Beep c = effect_as c.args.device c.args.status c.args.«data».now Beep c.in-Beep.is refl c.beep_command.ensures

pub bounds-data-0-in-LedOn : goal.bounds-data-0-in-LedOn
unfolding length_allowed
bounds-data-0-in-LedOn c = let one = fit_one LedOn c.in-LedOn.is refl c.requires in
    search rules

pub bounds-data-0-in-LedOff : goal.bounds-data-0-in-LedOff
unfolding length_allowed
bounds-data-0-in-LedOff c = let one = fit_one LedOff c.in-LedOff.is refl c.requires in
    search rules

pub returns-in-ParamDefaults : goal.returns-in-ParamDefaults
unfolding effect
returns-in-ParamDefaults c = effect_does c.args.device c.args.status c.args.«data».now ParamDefaults c.in-ParamDefaults.is (rw c.set_defaults-table.ensures.is refl)

pub returns : goal.returns
unfolding effect session_stopped aim_to
returns c =
    elim c.match-command.branch [
      | in-ParamRequest w ↦ rw w.switches-is (effect_does c.args.device c.args.status c.args.«data».now ParamRequest w.in-ParamRequest.is refl)
      | in-StartSession w ↦ rw w.switches-is (effect_does c.args.device c.args.status c.args.«data».now StartSession w.in-StartSession.is (rw w.start_session-switches.ensures.is refl))
      | in-StopSession w ↦ rw w.switches-is (effect_does c.args.device c.args.status c.args.«data».now StopSession w.in-StopSession.is refl)
      | in-LedOn w ↦ rw w.switches-is (effect_does c.args.device c.args.status c.args.«data».now LedOn w.in-LedOn.is (rw w.light-switches.ensures.is refl))
      | in-LedOff w ↦ rw w.switches-is (effect_does c.args.device c.args.status c.args.«data».now LedOff w.in-LedOff.is (rw w.light-switches-in-LedOff.ensures.is refl))
      | in-ScanEnable w ↦ rw w.switches-is (effect_does c.args.device c.args.status c.args.«data».now ScanEnable w.in-ScanEnable.is (rw w.scan-switches.ensures.is refl))
      | in-ScanDisable w ↦ rw w.switches-is (effect_does c.args.device c.args.status c.args.«data».now ScanDisable w.in-ScanDisable.is (rw w.scan-switches-in-ScanDisable.ensures.is refl))
      | in-AimOn w ↦ rw w.switches-is (effect_does c.args.device c.args.status c.args.«data».now AimOn w.in-AimOn.is refl)
      | in-AimOff w ↦ rw w.switches-is (effect_does c.args.device c.args.status c.args.«data».now AimOff w.in-AimOff.is refl)
    ]
