-- `listing::digit_of` meets its contract: one law for each range of characters. Assumes nothing.
use native.Mathlib.Omega.{arith}
use Rattle.listing.proofs.Characters.{below_digits, decimal_digit, below_capitals, capital_digit, below_small, small_digit, above_digits}
use Rattle.listing.proofs.digit_of.Goals as goal

pub returns-in-48-to-57 : goal.returns-in-48-to-57
returns-in-48-to-57 c = decimal_digit (omega arith) (omega arith)

pub returns-in-65-to-70 : goal.returns-in-65-to-70
returns-in-65-to-70 c = capital_digit (omega arith) (omega arith) (omega arith)

pub returns-in-97-to-102 : goal.returns-in-97-to-102
returns-in-97-to-102 c = small_digit (omega arith) (omega arith) (omega arith)

pub returns-in_default : goal.returns-in_default
returns-in_default c = below_digits (omega arith)

pub returns-in_default-2 : goal.returns-in_default-2
returns-in_default-2 c = below_capitals (omega arith) (omega arith)

pub returns-in_default-3 : goal.returns-in_default-3
returns-in_default-3 c = below_small (omega arith) (omega arith)

pub returns-in_default-4 : goal.returns-in_default-4
returns-in_default-4 c = above_digits (omega arith) (omega arith)
