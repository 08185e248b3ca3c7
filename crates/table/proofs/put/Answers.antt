-- `table::put` meets its contract: a store at its place, none where it has none. Assumes nothing.
use Rattle.table.proofs.Changing.{put_at, put_none}
use Rattle.table.proofs.put.Goals as goal

pub returns-in-Some : goal.returns-in-Some
returns-in-Some c = put_at c.in-Some.ensures

pub returns-in_default : goal.returns-in_default
returns-in_default c = put_none c.requires c.in_default.ensures
