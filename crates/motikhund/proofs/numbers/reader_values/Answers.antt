-- `motikhund::numbers::reader_values` meets its contract: the row's three numbers between the others. Assumes nothing.
use Rattle.motikhund.proofs.Telling.{reader_values_lem}
use Rattle.motikhund.proofs.numbers.reader_values.Goals as goal

pub returns : goal.returns
returns c = reader_values_lem c.reader_row.ensures c.outcome_value.ensures c.from.ensures
