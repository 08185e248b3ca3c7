-- `listing::sign` meets its contract: one law for each answer. Assumes nothing.
use native.Mathlib.Omega.{arith}
use Rattle.listing.proofs.Characters.{blank, character_gap, message_gap, other_sign}
use Rattle.listing.proofs.sign.Goals as goal

pub returns-in-32 : goal.returns-in-32
returns-in-32 c = blank c.in-32.is

pub returns-in-46 : goal.returns-in-46
returns-in-46 c = character_gap c.in-46.is

pub returns-in-47 : goal.returns-in-47
returns-in-47 c = message_gap c.in-47.is

pub returns-in_default : goal.returns-in_default
returns-in_default c = other_sign (grind arith) (grind arith) (grind arith) (grind arith) (grind arith)
