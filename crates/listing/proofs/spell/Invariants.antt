-- `listing::spell` meets its contract: the loop keeps that the bytes so far are spelt. Assumes nothing.
use Rattle.listing.proofs.Lines.{Spelling}
use Rattle.listing.proofs.spell.Given as goal

abbrev pub invariant-loop-b : goal.invariant-loop-b
invariant-loop-b l = Spelling l.bytes l.initial.page l.page l.b-index
