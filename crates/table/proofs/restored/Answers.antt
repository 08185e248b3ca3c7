-- `table::restored` meets its contract: each value by the library's `from_fn`. Assumes nothing.
use native.Mathlib.Omega.{arith}
use lib.ListN.{get_or}
use mathlib.Core.Bool.{false}
use borrow.Author.Rules.{rules}
use borrow.Author.Tests.{tests}
use Rattle.words.specs.Lists.{pick}
use Rattle.table.proofs.Finding.{setting_at, made_from, restored_all}
use Rattle.table.proofs.restored.Goals as goal

pub returns : goal.returns
returns c =
    restored_all c.from_fn.ensures.items.long
    (λ i h. made_from _ _ c.from_fn.result (λ k. pick (get_or c.args.locked k false) (get_or c.args.values k 0) (get_or (setting_at k) 3 0)) 9 0 (λ k y q w. search (rules, tests)) c.from_fn.ensures.items.each i (omega arith) (omega arith))
