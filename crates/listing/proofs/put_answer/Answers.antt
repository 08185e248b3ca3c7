-- `listing::put_answer` meets its contract: no line for no bytes. Assumes nothing.
use native.Mathlib.Omega.{arith}
use Rattle.std.proofs.lemmas.Bool.Decides.{nat_tests}
use Rattle.listing.proofs.Endings.{no_answer, an_answer}
use Rattle.listing.proofs.put_answer.Goals as goal

pub returns-then-is_empty : goal.returns-then-is_empty
returns-then-is_empty c = no_answer (grind (arith, nat_tests))

pub returns : goal.returns
returns c = an_answer (grind (arith, nat_tests)) c.put_line.ensures
