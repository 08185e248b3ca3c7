-- `reader::load` meets its contract: the set is taken, or refused. Assumes nothing.
use Rattle.reader.proofs.Loading.{load_done, load_refused}
use Rattle.reader.proofs.load.Goals as goal

pub returns-in_err-table : goal.returns-in_err-table
returns-in_err-table c = load_refused c.in_err-table.ensures c.from_residual.ensures.1

pub returns : goal.returns
returns c = load_done c.in_ok-table.ensures c.with_table.ensures
