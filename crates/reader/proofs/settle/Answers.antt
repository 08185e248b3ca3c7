-- `reader::settle` meets its contract: a packet that was accepted stays where it was received. Assumes nothing.
use mathlib.Core.Path.{sym, ◌∙◌}
use Rattle.reader.proofs.settle.Goals as goal

pub returns-then-accepted : goal.returns-then-accepted
returns-then-accepted c = record { is = c.joined.ensures.is ∙ simp (c.accept.ensures.is, sym c.accepted.ensures.is ∙ c.if-accepted.true) }

pub returns : goal.returns
returns c = record { is = c.joined-2.ensures.is ∙ simp (sym c.accepted.ensures.is ∙ c.if-accepted.false) }
