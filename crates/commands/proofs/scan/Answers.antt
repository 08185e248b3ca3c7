-- `commands::scan` meets its contract: a session goes on, or ends. Assumes nothing.
use mathlib.Core.Path.{refl}
use Rattle.commands.specs.Commands.{scanning_to}
use Rattle.commands.proofs.scan.Goals as goal

pub returns-then-on : goal.returns-then-on
unfolding scanning_to
returns-then-on c = record { is = rw c.if-on.true refl }

pub returns-else-on : goal.returns-else-on
unfolding scanning_to
returns-else-on c = record { is = rw c.if-on.false refl }
