-- `commands::light` meets its contract: bit 0 is set, or it is not. Assumes nothing.
use Prim.Native.Nat.{◌%◌}
use borrow.Author.Tests.{eq-eqb, ne_eqb}
use native.Mathlib.Omega.{arith}
use Rattle.commands.specs.Commands.{led_to}
use Rattle.commands.proofs.light.Goals as goal

pub returns-then-bits-eq0 : goal.returns-then-bits-eq0
unfolding led_to
returns-then-bits-eq0 c = record { is = simp (ne_eqb (c.args.bits % 2) 1 (λ z. omega arith)) }

pub returns : goal.returns
unfolding led_to
returns c = record { is = simp (eq-eqb (c.args.bits % 2) 1 (omega arith)) }
