-- `hub_lister::happen` meets its contract: the hub's event, then its lines, from what the hub's call promises. Assumes nothing.
use mathlib.Core.Path.{refl}
use native.Mathlib.Omega.{arith}
use Rattle.packet.specs.Sizes.{message_size}
use lib.ListN.{drop, length-take, length-drop}
use Rattle.hub_lister.proofs.Events.{behind_first, few_message, few_answer, happened}
use borrow.Author.Rules.{rules}
use Rattle.hub_lister.proofs.happen.Goals as goal

pub put_lines-requires : goal.put_lines-requires
put_lines-requires c = let h = c.hear-taken.ensures in
    (omega (arith, few_answer h (omega arith) (simp (length-take, length-drop) (omega arith))), omega (arith, few_message h (omega arith) (simp (length-take, length-drop) (omega arith))), search rules)

pub returns : goal.returns
returns c = let m = c.args.buffers.now.message in
    let rest = drop message_size (drop 1 m) in
    happened c.hear-taken.ensures (omega arith) (simp (length-take, length-drop) (omega arith)) rest refl refl refl refl
    (behind_first m c.hear-taken.new.message rest (omega arith))
    c.put_lines.ensures
    (record { line = refl; gather = refl })
