-- `hub_lister::stream::tell` meets its contract: each turn takes at least one character, and the session goes on. Assumes nothing.
use native.Mathlib.Omega.{arith}
use lib.ListN.{length-take, length-drop}
use borrow.Author.Tests.{not-true}
use Rattle.std.proofs.lemmas.Bool.Decides.{nat_tests}
use Rattle.hub_lister.proofs.Theorems.{continues, takes_one}
use Rattle.hub_lister.proofs.stream.tell.Goals as goal

pub loop-present-smaller : goal.loop-present-smaller
loop-present-smaller g c = let h = c.hear-listed.ensures in
    let one = takes_one h (not-true _ c.loop-present-test.true) (omega (arith, c.requires.1)) (grind (arith, nat_tests)) in
    let within = h.hears.within in
    simp (length-take, length-drop) (omega arith)

pub loop-present-preserved : goal.loop-present-preserved
loop-present-preserved g c = continues c.loop-present.invariant c.hear-listed.ensures
