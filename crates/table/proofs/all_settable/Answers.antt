-- `table::all_settable` meets its contract: the library's `all` over the pairs. Assumes nothing.
use borrow.Author.Rules.{rules}
use borrow.Author.Tests.{tests}
use Rattle.std.proofs.lemmas.Iterator.{YieldsList-from_slice}
use Rattle.std.proofs.lemmas.Iterator.Search.{all_from_yields_List}
use Rattle.table.specs.Table.{settable}
use Rattle.table.specs.Promises.{pair_of}
use Rattle.table.proofs.Changing.{judged}
use Rattle.table.proofs.all_settable.Goals as goal

pub returns : goal.returns
returns c = judged (all_from_yields_List (λ bytes. settable c.args.locked (pair_of bytes)) _ _ c.all.result c.all.ensures.ran (YieldsList-from_slice c.args.pairs.now cc) (λ x b q k. search (rules, tests)))
