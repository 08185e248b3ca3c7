-- `control::locks` meets its contract: each byte of the part, as a flag. Assumes nothing.
use mathlib.Core.Bool.{false}
use lib.Dec.{eqb}
use borrow.Author.Rules.{rules}
use Rattle.motikhund.proofs.Reading.{locks_in_lem, mapped}
use Rattle.motikhund.proofs.control.locks.Goals as goal

pub returns : goal.returns
returns c =
    locks_in_lem c.part.ensures
    (mapped (λ b. eqb b 1) 0 false 9 c.part.result c.map.result (search rules) (search rules) (λ i h. let k = c.map.ensures.items.at i 0 false (search rules) in search rules))
