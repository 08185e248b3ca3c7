-- `saved::values_in` meets its contract: each value by the library's `from_fn`. Assumes nothing.
use Prim.Native.Nat.{◌+◌, ◌*◌}
use native.Mathlib.Omega.{arith}
use lib.ListN.{get_or}
use borrow.Author.Rules.{rules}
use borrow.Author.Tests.{tests}
use Rattle.table.proofs.Finding.{made_from}
use Rattle.saved.proofs.Reading.{values_taken}
use Rattle.saved.proofs.values_in.Goals as goal

pub returns : goal.returns
returns c =
    values_taken c.from_fn.ensures.items.long
    (λ i h. made_from _ _ c.from_fn.result (λ k. get_or c.args.bytes.now (2 * k + 1) 0) 9 0 (λ k y q w. search (rules, tests)) c.from_fn.ensures.items.each i (omega arith) (omega arith))
