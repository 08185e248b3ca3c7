-- `listing::put_error` meets its contract: a line of no bytes. Assumes nothing.
use Rattle.listing.specs.Lines.{error_line}
use Rattle.listing.proofs.put_error.Goals as goal

pub returns : goal.returns
unfolding error_line
returns c = c.put_line.ensures
