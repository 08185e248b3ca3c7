-- `table::set` meets its contract: 7, then 9, then all pairs. Assumes nothing.
use mathlib.Core.Path.{sym, ◌∙◌}
use lib.ListN.{length}
use borrow.Author.Tests.{eqb-true, eqb-false}
use Rattle.table.proofs.Changing.{set_length, set_bad, set_done}
use Rattle.table.proofs.set.Goals as goal

pub returns-then-not-is_empty : goal.returns-then-not-is_empty
returns-then-not-is_empty c =
    let n = eqb-false (length c.as_chunks.result.1.now) 0 (sym c.is_empty.ensures ∙ c.if-not-is_empty.true) in
    set_length (λ e. n (c.as_chunks.ensures.back_len ∙ e))

pub returns-then-not-all_settable : goal.returns-then-not-all_settable
returns-then-not-all_settable c =
    let n = eqb-true (length c.as_chunks.result.1.now) 0 (sym c.is_empty.ensures ∙ c.if-not-is_empty.false) in
    set_bad (sym c.as_chunks.ensures.back_len ∙ n) c.as_chunks.ensures.front c.all_settable.ensures c.if-not-all_settable.true

pub returns : goal.returns
returns c =
    let n = eqb-true (length c.as_chunks.result.1.now) 0 (sym c.is_empty.ensures ∙ c.if-not-is_empty.false) in
    set_done (sym c.as_chunks.ensures.back_len ∙ n) c.as_chunks.ensures.front c.all_settable.ensures c.if-not-all_settable.false c.change.ensures
