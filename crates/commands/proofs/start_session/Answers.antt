-- `commands::start_session` meets its contract: scanning is enabled, or it is not. Assumes nothing.
use Rattle.commands.specs.Commands.{session_started}
use Rattle.commands.proofs.start_session.Goals as goal

pub returns-then-switches : goal.returns-then-switches
unfolding session_started
returns-then-switches c = record { is = simp c.if-switches.true }

pub returns-else-switches : goal.returns-else-switches
unfolding session_started
returns-else-switches c = record { is = simp c.if-switches.false }
