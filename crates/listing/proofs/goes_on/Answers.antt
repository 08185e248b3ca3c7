-- `listing::goes_on` meets its contract: both tests of the definition. Assumes nothing.
use Rattle.listing.specs.Session.{goes_on}
use Rattle.listing.proofs.goes_on.Goals as goal

pub returns-then-not-ended : goal.returns-then-not-ended
unfolding goes_on
returns-then-not-ended c = record { is = simp c.if-not-ended.true }

pub returns-else-not-ended : goal.returns-else-not-ended
unfolding goes_on
returns-else-not-ended c = record { is = simp c.if-not-ended.false }
