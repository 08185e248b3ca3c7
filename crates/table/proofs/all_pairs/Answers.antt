-- `table::all_pairs` meets its contract: at each turn the pairs of the rows passed are written. Assumes nothing.
use mathlib.Core.Path.{refl}
use borrow.Author.Rules.{rules}
use Rattle.std.proofs.lemmas.Iterator.{YieldsList-from_slice, YieldsList-from_zip}
use Rattle.std.proofs.lemmas.Iterator.Consumers.{YieldsList-at, YieldsList-from_enumerate, YieldsList-turn, YieldsList-end}
use Rattle.table.specs.declared.TheConstants.{SETTINGS}
use Rattle.table.proofs.Answering.{listing_none, listing_turn, listing_end}
use Rattle.table.proofs.all_pairs.Goals as goal

pub loop-i-init : goal.loop-i-init
loop-i-init c = listing_none refl

pub loop-i-preserved : goal.loop-i-preserved
loop-i-preserved c =
    let road = YieldsList-at c.into_iter-i-iterator.ensures.into_iter_gives (YieldsList-from_enumerate {s = c.enumerate-i-items.result} (YieldsList-at c.enumerate-i-items.ensures.source (YieldsList-from_zip {s = c.zip.result} (YieldsList-from_slice SETTINGS cc) (YieldsList-from_slice c.args.values cc))) cc) in
    let turn = YieldsList-turn road c.loop-i.yielded c.loop-i.i-iterator c.loop-i.yielded_by _ c.next.new.self _ c.in-Some.is c.next.ensures.steps in
    listing_turn c.loop-i.yielded _ (search rules) c.loop-i.invariant turn.0 turn.1

pub returns : goal.returns
returns c =
    let road = YieldsList-at c.into_iter-i-iterator.ensures.into_iter_gives (YieldsList-from_enumerate {s = c.enumerate-i-items.result} (YieldsList-at c.enumerate-i-items.ensures.source (YieldsList-from_zip {s = c.zip.result} (YieldsList-from_slice SETTINGS cc) (YieldsList-from_slice c.args.values cc))) cc) in
    let end = YieldsList-end road c.loop-i.yielded c.loop-i.i-iterator c.loop-i.yielded_by _ c.next.new.self c.in-None.is c.next.ensures.steps in
    listing_end (search rules) c.loop-i.invariant end.1
