-- `control::lock_bytes` meets its contract: each lock, as a byte. Assumes nothing.
use mathlib.Core.Path.{◌≡◌, ◌∙◌, sym}
use native.Mathlib.Omega.{arith}
use lib.ListN.{length}
use borrow.Author.Rules.{rules}
use Rattle.words.proofs.Loops.{filled_none, filled_more, filled_all}
use Rattle.motikhund.proofs.Storing.{flags_long, flag_at}
use Rattle.motikhund.proofs.control.lock_bytes.Goals as goal

pub loop-i-init : goal.loop-i-init
loop-i-init c = let l : length c.args.locked ≡ 9 = search rules in let f = flags_long c.args.locked in filled_none (omega arith)

pub loop-i-preserved : goal.loop-i-preserved
loop-i-preserved c = let l : length c.args.locked ≡ 9 = search rules in let f = flags_long c.args.locked in filled_more 0 _ c.loop-i.invariant (omega arith) (c.from.ensures ∙ sym (flag_at c.args.locked c.loop-i.i (omega arith)))

pub returns : goal.returns
returns c = let l : length c.args.locked ≡ 9 = search rules in let f = flags_long c.args.locked in record { is = filled_all c.loop-i.invariant (omega arith) }
