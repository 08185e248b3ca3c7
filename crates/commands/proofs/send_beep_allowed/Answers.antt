-- `commands::send_beep_allowed` meets its contract: FFh, then the codes that are allowed. Assumes nothing.
use borrow.Author.Tests.{eq-eqb, ne_eqb}
use Rattle.commands.specs.Beeps.{beep_allowed, send_beep_allowed}
use Rattle.commands.proofs.send_beep_allowed.Goals as goal

pub returns-then-code-eq255 : goal.returns-then-code-eq255
unfolding send_beep_allowed
returns-then-code-eq255 c = record { is = simp (eq-eqb c.args.code 255 c.if-code-eq255.true) }

pub returns-else-code-eq255 : goal.returns-else-code-eq255
unfolding send_beep_allowed beep_allowed
returns-else-code-eq255 c = record { is = simp (ne_eqb c.args.code 255 c.if-code-eq255.false) }
