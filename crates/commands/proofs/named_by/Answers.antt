-- `commands::named_by` meets its contract: one law for the opcodes, one for any other. Assumes nothing.
use mathlib.Core.Path.{refl}
use native.Mathlib.Omega.{arith}
use Rattle.packet.specs.Opcodes.{param_send, param_request, param_defaults, start_session, stop_session, beep, led_on, led_off, scan_enable, scan_disable, aim_on, aim_off}
use Rattle.commands.specs.Commands.{named_by}
use Rattle.commands.proofs.Commanding.{named_at, named_none}
use Rattle.commands.proofs.named_by.Goals as goal

pub returns-in-198 : goal.returns-in-198
unfolding named_by
returns-in-198 c = named_at param_send c.in-198.is refl

pub returns-in-199 : goal.returns-in-199
unfolding named_by
returns-in-199 c = named_at param_request c.in-199.is refl

pub returns-in-200 : goal.returns-in-200
unfolding named_by
returns-in-200 c = named_at param_defaults c.in-200.is refl

pub returns-in-228 : goal.returns-in-228
unfolding named_by
returns-in-228 c = named_at start_session c.in-228.is refl

pub returns-in-229 : goal.returns-in-229
unfolding named_by
returns-in-229 c = named_at stop_session c.in-229.is refl

pub returns-in-230 : goal.returns-in-230
unfolding named_by
returns-in-230 c = named_at beep c.in-230.is refl

pub returns-in-231 : goal.returns-in-231
unfolding named_by
returns-in-231 c = named_at led_on c.in-231.is refl

pub returns-in-232 : goal.returns-in-232
unfolding named_by
returns-in-232 c = named_at led_off c.in-232.is refl

pub returns-in-233 : goal.returns-in-233
unfolding named_by
returns-in-233 c = named_at scan_enable c.in-233.is refl

pub returns-in-234 : goal.returns-in-234
unfolding named_by
returns-in-234 c = named_at scan_disable c.in-234.is refl

pub returns-in-197 : goal.returns-in-197
unfolding named_by
returns-in-197 c = named_at aim_on c.in-197.is refl

pub returns-in-196 : goal.returns-in-196
unfolding named_by
returns-in-196 c = named_at aim_off c.in-196.is refl

pub returns-in_default : goal.returns-in_default
returns-in_default c =
    named_none (λ e. omega arith) (λ e. omega arith) (λ e. omega arith) (λ e. omega arith) (λ e. omega arith) (λ e. omega arith) (λ e. omega arith) (λ e. omega arith) (λ e. omega arith) (λ e. omega arith) (λ e. omega arith) (λ e. omega arith)
