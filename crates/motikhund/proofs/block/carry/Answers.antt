-- `motikhund::block::carry` meets its contract. Assumes nothing.
use Rattle.motikhund.proofs.Turning.{carries_bytes}
use Rattle.motikhund.proofs.block.carry.Goals as goal

pub returns : goal.returns
returns c = carries_bytes c.hub-before.ensures c.take_in-taken.ensures c.put_hub.ensures
