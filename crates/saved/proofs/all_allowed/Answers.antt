-- `saved::all_allowed` meets its contract: the library's `all` over the settings beside the values. Assumes nothing.
use borrow.Author.Rules.{rules}
use borrow.Author.Tests.{tests}
use Rattle.std.proofs.lemmas.Iterator.{YieldsList-from_slice, YieldsList-from_zip}
use Rattle.std.proofs.lemmas.Iterator.Search.{all_from_yields_List}
use lib.ListN.{get_or}
use Rattle.table.specs.Rows.{allowed}
use Rattle.table.specs.declared.TheConstants.{SETTINGS}
use Rattle.saved.proofs.Reading.{all_judged}
use Rattle.saved.proofs.all_allowed.Goals as goal

pub returns : goal.returns
returns c =
    all_judged (search rules)
    (all_from_yields_List (λ p. allowed (get_or p.0 0 0) p.1) c.all.new.self _ c.all.result c.all.ensures.ran (YieldsList-from_zip {s = c.zip.result} (YieldsList-from_slice SETTINGS cc) (YieldsList-from_slice c.args.values cc)) (λ x b q k. search (rules, tests)))
