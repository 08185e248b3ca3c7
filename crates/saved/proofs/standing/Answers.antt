-- `saved::standing` meets its contract: values and locks at their places. Assumes nothing.
use Rattle.words.proofs.Lists.{rest_part}
use Rattle.saved.proofs.Reading.{stands}
use Rattle.saved.proofs.standing.Goals as goal

pub returns : goal.returns
returns c = stands (rw (rest_part 2 c.args.form.now) at c.values_in-values.ensures) (rw (rest_part 21 c.args.form.now) at c.locks_in.ensures)
