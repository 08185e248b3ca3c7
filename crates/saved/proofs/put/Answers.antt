-- `saved::put` meets its contract: edition and count, the pairs, the locks. Assumes nothing.
use mathlib.Core.Path.{refl}
use Rattle.saved.proofs.Writing.{form_put}
use Rattle.saved.proofs.put.Goals as goal

pub returns : goal.returns
returns c = form_put c.requires c.put_front.ensures c.all_pairs.ensures c.copy.ensures refl c.put_locks-count.ensures
