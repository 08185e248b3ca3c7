-- `listing::capital` meets its contract: a digit below ten, or a letter. Assumes nothing.
use native.Mathlib.Omega.{arith}
use Rattle.listing.proofs.Lines.{capital_decimal, capital_letter}
use Rattle.listing.proofs.capital.Goals as goal

pub returns-in-0-to-9 : goal.returns-in-0-to-9
returns-in-0-to-9 c = capital_decimal (omega arith)

pub returns-in_default : goal.returns-in_default
returns-in_default c = capital_letter (omega arith)
