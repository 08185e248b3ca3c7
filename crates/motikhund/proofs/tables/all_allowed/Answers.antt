-- `motikhund::tables::all_allowed` meets its contract: both arrays. Assumes nothing.
use Rattle.motikhund.proofs.Tabling.{both_allowed, not_allowed}
use Rattle.motikhund.proofs.tables.all_allowed.Goals as goal

pub returns-then-all_allowed : goal.returns-then-all_allowed
returns-then-all_allowed c = both_allowed c.all_allowed.ensures c.if-all_allowed.true c.all_allowed-then-all_allowed.ensures

pub returns-else-all_allowed : goal.returns-else-all_allowed
returns-else-all_allowed c = not_allowed c.all_allowed.ensures c.if-all_allowed.false
