-- `table::place` meets its contract: the library's `position` over the settings. Assumes nothing.
use lib.Dec.{eqb}
use lib.ListN.{get_or}
use borrow.Author.Rules.{rules}
use borrow.Author.Tests.{tests}
use Rattle.std.proofs.lemmas.Iterator.{YieldsList-from_slice}
use Rattle.std.proofs.lemmas.Iterator.Search.{position_from_yields_List}
use Rattle.table.specs.declared.TheConstants.{SETTINGS}
use Rattle.table.proofs.Finding.{placed}
use Rattle.table.proofs.place.Goals as goal

pub returns : goal.returns
returns c = placed (position_from_yields_List (λ s. eqb (get_or s 0 0) c.args.number) _ _ c.position.result c.position.ensures.ran (YieldsList-from_slice SETTINGS cc) (λ x b q k. search (rules, tests)))
