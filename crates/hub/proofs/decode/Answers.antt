-- `hub::decode` meets its contract. Assumes nothing.
use native.Mathlib.Omega.{arith}
use Rattle.hub.proofs.Joining.{data_opened, decodes_none, decodes_some}
use Rattle.hub.proofs.decode.Goals as goal

pub returns-in_default : goal.returns-in_default
returns-in_default c = decodes_none c.args.packets.last.now c.args.held.sound c.data_part.ensures c.told-gather (omega arith) c.unchanged.ensures

pub join-requires : goal.join-requires
join-requires c = data_opened c.data_part.ensures

pub returns : goal.returns
returns c = decodes_some c.args.packets.last.now c.args.held.sound c.data_part.ensures (omega arith) c.join.ensures
