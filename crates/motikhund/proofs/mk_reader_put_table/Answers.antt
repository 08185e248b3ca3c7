-- `motikhund::mk_reader_put_table` meets its contract: 13 or 9, or the table put into what the bytes hold. Assumes nothing.
use native.Mathlib.Omega.{arith}
use Rattle.motikhund.proofs.Tabling.{back_refused, put_into}
use Rattle.motikhund.proofs.mk_reader_put_table.Goals as goal

pub returns-then-not-all_allowed : goal.returns-then-not-all_allowed
returns-then-not-all_allowed c = back_refused (omega arith) c.all_allowed.ensures c.if-not-all_allowed.true c.refusal.ensures

pub returns : goal.returns
returns c = put_into (omega arith) c.all_allowed.ensures c.if-not-all_allowed.false c.reader.ensures c.table_of.ensures c.with_table-next.ensures c.put_reader.ensures
