-- `table::request_length_allowed` meets its contract. Assumes nothing.
use mathlib.Core.Path.{sym, ◌∙◌}
use lib.ListN.{length}
use borrow.Author.Tests.{eqb-true, eqb-false}
use Rattle.table.proofs.Changing.{request_none, request_some}
use Rattle.table.proofs.request_length_allowed.Goals as goal

pub returns-then-not-is_empty : goal.returns-then-not-is_empty
returns-then-not-is_empty c = request_some (eqb-false (length c.args.data.now) 0 (sym c.is_empty.ensures ∙ c.if-not-is_empty.true))

pub returns-else-not-is_empty : goal.returns-else-not-is_empty
returns-else-not-is_empty c = request_none c.if-not-is_empty.false (eqb-true (length c.args.data.now) 0 (sym c.is_empty.ensures ∙ c.if-not-is_empty.false))
