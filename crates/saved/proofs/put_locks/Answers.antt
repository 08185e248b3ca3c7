-- `saved::put_locks` meets its contract: at each turn the locked ones among the rows passed are written. Assumes nothing.
use borrow.Author.Rules.{rules}
use native.Mathlib.Omega.{arith}
use mathlib.Core.Path.{sym, ◌∙◌}
use mathlib.Core.Bool.{false}
use mathlib.Core.List.{[]}
use lib.ListN.{length-append}
use Rattle.std.proofs.lemmas.Slice.Zip.{zip_turn, zip_end}
use Rattle.table.specs.Rows.{rows}
use Rattle.table.specs.declared.TheConstants.{SETTINGS}
use Rattle.saved.proofs.Writing.{locking_none, locking_one, locking_not, locking_all, locking_few, locking_fits}
use Rattle.saved.proofs.put_locks.Goals as goal

pub loop-number-init : goal.loop-number-init
unfolding rows
loop-number-init c = locking_none c.requires

pub overflow_add-count : goal.overflow_add-count
overflow_add-count c = let f = locking_few c.loop-number.invariant in omega arith

pub bounds-room-count : goal.bounds-room-count
bounds-room-count c =
    let turn = zip_turn SETTINGS c.args.locked c.loop-number.yielded _ _ c.next.new.self _ (cc) (cc) c.loop-number.yielded_by _ c.in-Some.is c.next.ensures.steps in
    locking_fits c.loop-number.invariant turn.0

pub loop-number-preserved-then-here : goal.loop-number-preserved-then-here
loop-number-preserved-then-here c =
    let turn = zip_turn SETTINGS c.args.locked c.loop-number.yielded _ _ c.next.new.self _ (cc) (cc) c.loop-number.yielded_by _ c.in-Some.is c.next.ensures.steps in
    locking_one c.loop-number.invariant turn.0 (length-append c.loop-number.yielded _) (turn.2 []) (sym (turn.3 false) ∙ c.if-here.true)

pub loop-number-preserved : goal.loop-number-preserved
loop-number-preserved c =
    let turn = zip_turn SETTINGS c.args.locked c.loop-number.yielded _ _ c.next.new.self _ (cc) (cc) c.loop-number.yielded_by _ c.in-Some.is c.next.ensures.steps in
    locking_not c.loop-number.invariant turn.0 (length-append c.loop-number.yielded _) (sym (turn.3 false) ∙ c.if-here.false)

pub overflow_cast-room : goal.overflow_cast-room
overflow_cast-room c = let f = locking_few c.loop-number.invariant in omega arith

pub overflow_add-result : goal.overflow_add-result
overflow_add-result c = let f = locking_few c.loop-number.invariant in omega arith

pub returns : goal.returns
returns c = locking_all c.loop-number.invariant (search rules) (zip_end SETTINGS c.args.locked c.loop-number.yielded _ _ c.next.new.self _ (cc) (cc) c.loop-number.yielded_by c.in-None.is c.next.ensures.steps)
