-- `listing::take` meets its contract: one law for each answer. Assumes nothing.
use Rattle.listing.proofs.Characters.{takes_byte, takes_lone, takes_first, takes_sign}
use Rattle.listing.proofs.take.Goals as goal

pub returns-in-Some-Some : goal.returns-in-Some-Some
returns-in-Some-Some c = takes_byte c.in-Some-Some.is-0 c.in-Some-Some.ensures c.joined.ensures

pub returns-in-Some-None : goal.returns-in-Some-None
returns-in-Some-None c = takes_lone c.in-Some-None.is-0 c.in-Some-None.ensures

pub returns-in-None-Some : goal.returns-in-None-Some
returns-in-None-Some c = takes_first c.in-None-Some.is-0 c.in-None-Some.ensures

pub returns-in-None-None : goal.returns-in-None-None
returns-in-None-None c = takes_sign c.in-None-None.is-0 c.in-None-None.ensures c.sign.ensures
