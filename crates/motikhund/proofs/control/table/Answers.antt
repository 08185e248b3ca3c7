-- `motikhund::control::table` meets its contract. Assumes nothing.
use Rattle.motikhund.proofs.Reading.{table_in_lem}
use Rattle.motikhund.proofs.control.table.Goals as goal

pub returns : goal.returns
returns c = table_in_lem c.part.ensures c.part-2.ensures c.locks.ensures
