-- `table::ask` meets its contract: one law for each answer; as long as a row is not marked there is room for its pair. Assumes nothing.
use native.Mathlib.Omega.{arith}
use lib.ListN.{length-set}
use Rattle.table.proofs.Answering.{room_left, ask_unknown, ask_again, ask_new}
use Rattle.table.proofs.ask.Goals as goal

pub returns-in_default : goal.returns-in_default
returns-in_default c = ask_unknown c.in_default.ensures

pub returns-then-seen-row : goal.returns-then-seen-row
returns-then-seen-row c = ask_again c.in-Some.ensures c.if-seen-row.true

pub bounds-room-at : goal.bounds-room-at
bounds-room-at c = let l = room_left c.in-Some.ensures c.requires c.if-seen-row.false in omega arith

pub bounds-room-at-2 : goal.bounds-room-at-2
bounds-room-at-2 c = let l = room_left c.in-Some.ensures c.requires c.if-seen-row.false in simp length-set (omega arith)

pub overflow_add-result : goal.overflow_add-result
overflow_add-result c = let l = room_left c.in-Some.ensures c.requires c.if-seen-row.false in omega arith

pub returns : goal.returns
returns c = ask_new c.in-Some.ensures c.requires c.if-seen-row.false
