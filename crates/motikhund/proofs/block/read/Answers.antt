-- `motikhund::block::read` meets its contract. The outer loop keeps what the bytes so far have left; the inner one that each turn leads on from
-- there. The measure of both is what is left of the bytes. Assumes nothing.
use Prim.Native.Nat.{◌+◌, ◌<◌}
use mathlib.Core.Path.{refl, ap, ◌∙◌}
use native.Mathlib.Omega.{arith}
use lib.ListN.{length, get_or}
use Rattle.hub.proofs.Blocks.{before_end, room_length, room_open, message_same}
use Rattle.motikhund.proofs.Turning.{going_first, going_long, still_long, still_full, goes_silent, event, out_fits, out_length, turned, going_again, takes_all, takes_silent, takes_turn}
use Rattle.motikhund.proofs.block.read.Goals as goal

pub packets-init : goal.packets-init
packets-init c = going_first c.requires.1

pub loop-at-init : goal.loop-at-init
loop-at-init c = record { least = omega arith; leads = λ control₀ line₀ gather₀ answer₀ message₀ k. k }

pub slice_bounds-carry-count : goal.slice_bounds-carry-count
slice_bounds-carry-count c = let g = c.loop-at.invariant.leads _ _ _ _ _ c.packets.invariant in
    g.goes.reading.within

pub slice_bounds-carry-start : goal.slice_bounds-carry-start
slice_bounds-carry-start c = let g = c.loop-at.invariant.leads _ _ _ _ _ c.packets.invariant in
    g.goes.reading.within

pub carry-at-requires : goal.carry-at-requires
carry-at-requires c = let g = c.loop-at.invariant.leads _ _ _ _ _ c.packets.invariant in
    still_long g c.requires.0

pub overflow_add-at : goal.overflow_add-at
overflow_add-at c = let g = c.loop-at.invariant.leads _ _ _ _ _ c.packets.invariant in
    let w = (goes_silent g c.carry-at.ensures).reading.within in
    omega (arith, w, c.well_formed.1.1.1.1.1.0)

pub bounds-bytes-at : goal.bounds-bytes-at
bounds-bytes-at c = let g = c.loop-at.invariant.leads _ _ _ _ _ c.packets.invariant in
    before_end _ _ (goes_silent g c.carry-at.ensures).reading.within c.if-at-bytes.false

pub slice_bounds-mk_hub_hear-count : goal.slice_bounds-mk_hub_hear-count
slice_bounds-mk_hub_hear-count c = let g = c.loop-at.invariant.leads _ _ _ _ _ c.packets.invariant in
    let w = room_open g.goes in
    omega (arith, w)

pub slice_bounds-mk_hub_hear-start : goal.slice_bounds-mk_hub_hear-start
slice_bounds-mk_hub_hear-start c = let g = c.loop-at.invariant.leads _ _ _ _ _ c.packets.invariant in
    let w = room_open g.goes in
    omega (arith, w)

pub overflow_add-at-in-loop-at : goal.overflow_add-at-in-loop-at
overflow_add-at-in-loop-at c = let g = c.loop-at.invariant.leads _ _ _ _ _ c.packets.invariant in
    let w = before_end _ _ (goes_silent g c.carry-at.ensures).reading.within c.if-at-bytes.false in
    omega (arith, w, c.well_formed.1.1.1.1.1.0)

pub overflow_add-out : goal.overflow_add-out
overflow_add-out c = let g = c.loop-at.invariant.leads _ _ _ _ _ c.packets.invariant in
    let k = c.carry-at.ensures in
    let end = c.if-at-bytes.false in
    let full = still_full g c.requires.2 in
    let at = c.loop-at.at + c.carry-at.result in
    let small : get_or c.args.bytes.now at 0 < 256 = omega (arith, c.shared_slice_known-in-loop-at-1.given at) in
    let h = event g k (still_long g c.requires.0) full small (rw c.from-event.ensures at c.mk_hub_hear-number.ensures) in
    let f = out_fits g k end full small h in
    let e = room_length g.goes in
    omega (arith, f, e, c.well_formed.1.1.1.0.0)

pub overflow_sub-answer : goal.overflow_sub-answer
overflow_sub-answer c = let g = c.loop-at.invariant.leads _ _ _ _ _ c.packets.invariant in
    let k = c.carry-at.ensures in
    let end = c.if-at-bytes.false in
    let full = still_full g c.requires.2 in
    let at = c.loop-at.at + c.carry-at.result in
    let small : get_or c.args.bytes.now at 0 < 256 = omega (arith, c.shared_slice_known-in-loop-at-1.given at) in
    let h = event g k (still_long g c.requires.0) full small (rw c.from-event.ensures at c.mk_hub_hear-number.ensures) in
    let f = out_fits g k end full small h in
    let e = out_length g k end full small h in
    omega (arith, f, e)

pub packets-smaller : goal.packets-smaller
packets-smaller c = let g = c.loop-at.invariant.leads _ _ _ _ _ c.packets.invariant in
    let w = before_end _ _ (goes_silent g c.carry-at.ensures).reading.within c.if-at-bytes.false in
    let m = c.loop-at.invariant.least in
    omega (arith, w, m)

pub packets-preserved : goal.packets-preserved
packets-preserved c = let g = c.loop-at.invariant.leads _ _ _ _ _ c.packets.invariant in
    let k = c.carry-at.ensures in
    let end = c.if-at-bytes.false in
    let full = still_full g c.requires.2 in
    let at = c.loop-at.at + c.carry-at.result in
    let small : get_or c.args.bytes.now at 0 < 256 = omega (arith, c.shared_slice_known-in-loop-at-1.given at) in
    let h = event g k (still_long g c.requires.0) full small (rw c.from-event.ensures at c.mk_hub_hear-number.ensures) in
    going_again (turned g k end full small h c.named-told.ensures refl c.leaving.ensures) (λ z. omega arith) c.if-leaving.false

pub loop-at-smaller : goal.loop-at-smaller
loop-at-smaller c = let g = c.loop-at.invariant.leads _ _ _ _ _ c.packets.invariant in
    let w = before_end _ _ (goes_silent g c.carry-at.ensures).reading.within c.if-at-bytes.false in
    omega (arith, w)

pub loop-at-preserved : goal.loop-at-preserved
loop-at-preserved c = let g = c.loop-at.invariant.leads _ _ _ _ _ c.packets.invariant in
    let k = c.carry-at.ensures in
    let end = c.if-at-bytes.false in
    let full = still_full g c.requires.2 in
    let at = c.loop-at.at + c.carry-at.result in
    let small : get_or c.args.bytes.now at 0 < 256 = omega (arith, c.shared_slice_known-in-loop-at-1.given at) in
    let h = event g k (still_long g c.requires.0) full small (rw c.from-event.ensures at c.mk_hub_hear-number.ensures) in
    let m = c.loop-at.invariant.least in
    record {
      least = omega (arith, m);
      leads = λ control₀ line₀ gather₀ answer₀ message₀ before. going_again (turned (c.loop-at.invariant.leads control₀ line₀ gather₀ answer₀ message₀ before) k end full small h c.named-told.ensures refl c.leaving.ensures) (λ z. omega arith) c.if-leaving.false;
    }

pub shape_of-control-after-packets : goal.shape_of-control-after-packets
shape_of-control-after-packets c = going_long c.packets.invariant c.requires.0

pub shape_of-answer-after-packets : goal.shape_of-answer-after-packets
shape_of-answer-after-packets c = room_length c.packets.invariant.goes

pub shape_of-message-after-packets : goal.shape_of-message-after-packets
shape_of-message-after-packets c = ap length (message_same c.packets.invariant.goes)

pub returns-after-packets : goal.returns-after-packets
returns-after-packets c = record { takes = takes_all c.requires.1 c.requires.2 c.requires.3 c.packets.invariant (omega arith) }

pub shape_of-control-then-at-bytes : goal.shape_of-control-then-at-bytes
shape_of-control-then-at-bytes c = let g = c.loop-at.invariant.leads _ _ _ _ _ c.packets.invariant in
    c.carry-at.auto.control ∙ going_long g c.requires.0

pub shape_of-answer-then-at-bytes : goal.shape_of-answer-then-at-bytes
shape_of-answer-then-at-bytes c = let g = c.loop-at.invariant.leads _ _ _ _ _ c.packets.invariant in
    room_length g.goes

pub shape_of-message-then-at-bytes : goal.shape_of-message-then-at-bytes
shape_of-message-then-at-bytes c = let g = c.loop-at.invariant.leads _ _ _ _ _ c.packets.invariant in
    ap length (message_same g.goes)

pub returns-then-at-bytes : goal.returns-then-at-bytes
returns-then-at-bytes c = let g = c.loop-at.invariant.leads _ _ _ _ _ c.packets.invariant in
    record { takes = takes_silent c.requires.1 c.requires.2 c.requires.3 g c.carry-at.ensures c.if-at-bytes.true (λ z. omega (arith, z, c.packets-test.true)) }

pub shape_of-control-then-leaving : goal.shape_of-control-then-leaving
shape_of-control-then-leaving c = let g = c.loop-at.invariant.leads _ _ _ _ _ c.packets.invariant in
    c.mk_hub_hear-number.auto.control ∙ (c.carry-at.auto.control ∙ going_long g c.requires.0)

pub shape_of-answer-then-leaving : goal.shape_of-answer-then-leaving
shape_of-answer-then-leaving c = let g = c.loop-at.invariant.leads _ _ _ _ _ c.packets.invariant in
    let k = c.carry-at.ensures in
    let end = c.if-at-bytes.false in
    let full = still_full g c.requires.2 in
    let at = c.loop-at.at + c.carry-at.result in
    let small : get_or c.args.bytes.now at 0 < 256 = omega (arith, c.shared_slice_known-in-loop-at-1.given at) in
    let h = event g k (still_long g c.requires.0) full small (rw c.from-event.ensures at c.mk_hub_hear-number.ensures) in
    out_length g k end full small h ∙ room_length g.goes

pub shape_of-message-then-leaving : goal.shape_of-message-then-leaving
shape_of-message-then-leaving c = let g = c.loop-at.invariant.leads _ _ _ _ _ c.packets.invariant in
    c.mk_hub_hear-number.auto.message ∙ ap length (message_same g.goes)

pub returns-then-leaving : goal.returns-then-leaving
returns-then-leaving c = let g = c.loop-at.invariant.leads _ _ _ _ _ c.packets.invariant in
    let k = c.carry-at.ensures in
    let end = c.if-at-bytes.false in
    let full = still_full g c.requires.2 in
    let at = c.loop-at.at + c.carry-at.result in
    let small : get_or c.args.bytes.now at 0 < 256 = omega (arith, c.shared_slice_known-in-loop-at-1.given at) in
    let h = event g k (still_long g c.requires.0) full small (rw c.from-event.ensures at c.mk_hub_hear-number.ensures) in
    record { takes = takes_turn c.requires.1 c.requires.2 c.requires.3 (turned g k end full small h c.named-told.ensures refl c.leaving.ensures) (λ z. omega arith) c.if-leaving.true }
