-- `saved::load` meets its contract: the set that stands in the form, if the form is exactly its own. Assumes nothing.
use native.Mathlib.Omega.{arith}
use Rattle.saved.proofs.Reading.{load_short, load_exact, load_other}
use Rattle.saved.proofs.load.Goals as goal

pub returns-then-form-lt-LEAST_SIZE : goal.returns-then-form-lt-LEAST_SIZE
returns-then-form-lt-LEAST_SIZE c = load_short (omega arith)

pub returns-then-exact : goal.returns-then-exact
returns-then-exact c = load_exact c.standing-set.ensures c.exact.ensures c.if-exact.true

pub returns : goal.returns
returns c = load_other c.standing-set.ensures c.exact.ensures c.if-exact.false
