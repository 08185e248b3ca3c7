-- `commands::send` meets its contract: the settings are done, or refused, or the beep code is. Assumes nothing.
use Rattle.commands.proofs.Commanding.{handed_on, denied_by, send_done, send_denied, send_beep_denied}
use Rattle.commands.proofs.send.Goals as goal

pub returns-then-not-send_beep_allowed : goal.returns-then-not-send_beep_allowed
returns-then-not-send_beep_allowed c = let a = c.args in
    denied_by (send_beep_denied a.device a.status a.«data».now c.send_beep_allowed.ensures c.if-not-send_beep_allowed.true)

pub returns-in_err-table : goal.returns-in_err-table
returns-in_err-table c = let a = c.args in
    handed_on c.from_residual.ensures.1 (send_denied a.device a.status a.«data».now c.send_beep_allowed.ensures c.if-not-send_beep_allowed.false c.set.ensures c.in_err-table.was)

pub returns : goal.returns
returns c = let a = c.args in
    send_done a.device a.status a.«data».now c.send_beep_allowed.ensures c.if-not-send_beep_allowed.false c.set.ensures c.in_ok-table.was c.report.ensures
