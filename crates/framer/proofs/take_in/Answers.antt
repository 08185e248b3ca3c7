-- `framer::take_in` meets its contract: no byte, a deaf framer, none inside a packet, or as many as go inside. Assumes nothing.
use native.Mathlib.Omega.{arith}
use Rattle.std.proofs.Common.{rules}
use Rattle.std.proofs.lemmas.Bool.Decides.{nat_tests}
use Rattle.words.proofs.Lists.{copied_exact}
use Rattle.framer.proofs.Silence.{takes_none, takes_deaf, takes_left, takes_moved}
use Rattle.framer.proofs.take_in.Goals as goal

pub returns-then-is_empty : goal.returns-then-is_empty
returns-then-is_empty c = takes_none (grind (arith, nat_tests))

pub returns-then-halves : goal.returns-then-halves
returns-then-halves c = takes_deaf c.told-buffer (record { each = c.fits-buffer }) (grind (arith, nat_tests)) c.if-halves.true c.deaf.ensures

pub returns-then-count-eq0 : goal.returns-then-count-eq0
returns-then-count-eq0 c = takes_left c.args.halves _ _ _ _ _ c.told-buffer c.if-halves.false c.place-from.ensures c.begun-n.ensures c.inside_of-count.ensures c.if-count-eq0.true

pub slice_bounds-copy-end-2 : goal.slice_bounds-copy-end-2
slice_bounds-copy-end-2 c = let fits = c.inside_of-count.ensures.inside c.if-count-eq0.false in omega arith

pub returns : goal.returns
returns c = takes_moved c.args.halves _ _ _ _ _ c.told-buffer c.if-halves.false c.place-from.ensures c.begun-n.ensures c.inside_of-count.ensures (record { each = c.fits-buffer }) (record { each = λ i. omega (arith, c.type_inv.bytes i) }) c.if-count-eq0.false (copied_exact (search rules) c.copy.ensures)
