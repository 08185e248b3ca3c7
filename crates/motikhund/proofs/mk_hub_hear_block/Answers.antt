-- `motikhund::mk_hub_hear_block` meets its contract: 13, 15, or the block that was read. Assumes nothing.
use native.Mathlib.Omega.{arith}
use Rattle.motikhund.proofs.Calls.{block_small, block_long, block_reads}
use Rattle.motikhund.proofs.mk_hub_hear_block.Goals as goal

pub returns-then-control-lt-HUB_CONTROL_SIZE : goal.returns-then-control-lt-HUB_CONTROL_SIZE
returns-then-control-lt-HUB_CONTROL_SIZE c = block_small c.then-control-lt-HUB_CONTROL_SIZE.either

pub returns-then-bytes-gt-BLOCK_SIZE : goal.returns-then-bytes-gt-BLOCK_SIZE
returns-then-bytes-gt-BLOCK_SIZE c = block_long (omega arith) (omega arith) (omega arith) (omega arith)

pub returns : goal.returns
returns c = block_reads (omega arith) c.read-brought.ensures.takes
