-- `framer::carry` meets its contract: deaf, left, or carried on in the half that receives. Assumes nothing.
use Rattle.framer.proofs.Quick.{carry_deaf, carry_on, carry_left}
use borrow.Author.Rules.{rules}
use Rattle.framer.proofs.carry.Goals as goal

pub returns-then-framer : goal.returns-then-framer
returns-then-framer c = carry_deaf c.told-buffer (record { each = c.fits-buffer }) c.if-framer.true

pub returns-in-None : goal.returns-in-None
returns-in-None c = carry_left c.place-from.ensures c.in-None.ensures

pub returns-in-Some : goal.returns-in-Some
returns-in-Some c = carry_on c.told-buffer c.if-framer.false c.place-from.ensures c.in-Some.ensures (record { each = search rules })
