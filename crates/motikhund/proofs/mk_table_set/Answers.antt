-- `motikhund::mk_table_set` meets its contract: the list set, or the refusal. Assumes nothing.
use Rattle.motikhund.proofs.Tabling.{pairs_set, pairs_refused}
use Rattle.motikhund.proofs.mk_table_set.Goals as goal

pub returns-in-Ok : goal.returns-in-Ok
returns-in-Ok c = pairs_set c.table_of.ensures c.in-Ok.ensures c.with_values.ensures

pub returns-in-Err : goal.returns-in-Err
returns-in-Err c = pairs_refused c.table_of.ensures c.in-Err.ensures c.refusal.ensures
