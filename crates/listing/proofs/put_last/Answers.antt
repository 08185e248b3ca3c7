-- `listing::put_last` meets its contract: one law for each answer. Assumes nothing.
use mathlib.Core.Path.{refl}
use borrow.Author.Rules.{rules}
use Rattle.listing.proofs.Endings.{last_ended, last_lone, last_right}
use Rattle.listing.proofs.put_last.Goals as goal

pub returns-then-ended : goal.returns-then-ended
returns-then-ended c = last_ended c.if-ended.true

pub returns-in-Some : goal.returns-in-Some
returns-in-Some c = last_lone c.if-ended.false c.in-Some.is refl refl c.put_error.ensures (search rules)

pub returns-in-None : goal.returns-in-None
returns-in-None c = last_right c.if-ended.false c.in-None.is
