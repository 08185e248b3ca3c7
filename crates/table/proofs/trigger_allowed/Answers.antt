-- `table::trigger_allowed` meets its contract. Assumes nothing.
use native.Mathlib.Omega.{arith}
use Rattle.std.proofs.lemmas.Bool.Decides.{nat_tests}
use Rattle.table.specs.Rows.{trigger_allowed}
use Rattle.table.proofs.trigger_allowed.Goals as goal

pub returns-in_default : goal.returns-in_default
unfolding trigger_allowed
returns-in_default c = record { is = grind (arith, nat_tests) }

pub returns-in_default-2 : goal.returns-in_default-2
unfolding trigger_allowed
returns-in_default-2 c = record { is = grind (arith, nat_tests) }

pub returns-in-0 : goal.returns-in-0
unfolding trigger_allowed
returns-in-0 c = record { is = grind (arith, nat_tests) }

pub returns-in-0-2 : goal.returns-in-0-2
unfolding trigger_allowed
returns-in-0-2 c = record { is = grind (arith, nat_tests) }
