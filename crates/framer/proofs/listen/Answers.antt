-- `framer::listen` meets its contract: the receiving half is lent to `hear` and put back. Assumes nothing.
use Rattle.framer.proofs.TwoHalves.{listens}
use borrow.Author.Rules.{rules}
use Rattle.framer.proofs.listen.Goals as goal

pub returns : goal.returns
returns c = listens c.told-buffer c.place-from.ensures c.hear-found.ensures (record { each = search rules })
