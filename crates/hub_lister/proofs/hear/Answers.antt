-- `hub_lister::hear` meets its contract: the loop keeps the run over the characters passed. Assumes nothing.
use mathlib.Core.Path.{refl, ◌∙◌}
use Rattle.listing.proofs.Reading.{listing_none, listing_more, listing_all, listing_left, room_for}
use borrow.Author.Rules.{rules}
use native.Mathlib.Omega.{arith}
use Rattle.hub_lister.proofs.Theorems.{listens}
use Rattle.hub_lister.proofs.hear.Goals as goal

pub loop-taken-init : goal.loop-taken-init
loop-taken-init c = (listing_none refl, record { line = refl; gather = refl })

pub returns-then-not-goes_on : goal.returns-then-not-goes_on
returns-then-not-goes_on c = listens (search rules) (search rules) (search rules) (listing_left c.loop-taken.invariant.0 c.loop-taken-test.true c.goes_on.ensures c.if-not-goes_on.true)

pub character-present-requires : goal.character-present-requires
character-present-requires c = omega (arith, room_for c.goes_on.ensures c.if-not-goes_on.false, c.loop-taken.invariant.0.inside)

pub loop-taken-preserved : goal.loop-taken-preserved
loop-taken-preserved c = let s = c.character-present.ensures in (
  listing_more c.loop-taken.invariant.0 c.loop-taken-test.true c.goes_on.ensures c.if-not-goes_on.false s.steps,
  record { line = s.same.line ∙ c.loop-taken.invariant.1.line; gather = s.same.gather ∙ c.loop-taken.invariant.1.gather },
)

pub returns : goal.returns
returns c = listens (search rules) (search rules) (search rules) (listing_all c.loop-taken.invariant.0 c.loop-taken-test.false)
