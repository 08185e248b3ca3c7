-- `motikhund::block::read` meets its contract. The outer loop keeps what the bytes so far have left; the inner one that each turn leads on from
-- there. The measure of both is what is left of the bytes. Assumes nothing.
use Prim.Native.Nat.{◌-◌}
use lib.ListN.{length}
use Rattle.motikhund.proofs.Turning.{Going, Leading}
use Rattle.motikhund.proofs.block.read.Given as goal

abbrev pub invariant-loop-at : goal.invariant-loop-at
invariant-loop-at l = Leading l.initial.control l.initial.line l.initial.gather l.initial.answer l.initial.message l.bytes l.initial.told l.initial.code l.initial.count l.initial.at l.initial.out l.control l.line l.gather l.answer l.message l.told l.code l.count l.at l.out

abbrev pub decreases-loop-at : goal.decreases-loop-at
decreases-loop-at l = length l.bytes - l.at

abbrev pub invariant-packets : goal.invariant-packets
invariant-packets l = Going l.initial.control l.initial.line l.initial.gather l.initial.answer l.initial.message l.bytes l.told l.code l.count l.at l.out l.control l.line l.gather l.answer l.message

abbrev pub decreases-packets : goal.decreases-packets
decreases-packets l = length l.bytes - l.at
