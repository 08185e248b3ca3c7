-- `motikhund::mk_reader_table` meets its contract: 13, or the table that the bytes hold. Assumes nothing.
use native.Mathlib.Omega.{arith}
use Rattle.motikhund.specs.Lent.{here}
use Rattle.motikhund.proofs.Tabling.{out_13}
use Rattle.motikhund.proofs.mk_reader_table.Goals as goal

pub returns-then-control-lt-READER_CONTROL_SIZE : goal.returns-then-control-lt-READER_CONTROL_SIZE
returns-then-control-lt-READER_CONTROL_SIZE c = out_13 (here (omega arith))
