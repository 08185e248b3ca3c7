-- `hub::step` meets its contract: nothing, a refusal, or a packet for the joining. Assumes nothing.
use Rattle.hub.proofs.Hearing.{step_nothing, step_refused, step_packet}
use Rattle.framer.proofs.TwoHalves.{listened_packet}
use Rattle.hub.proofs.step.Goals as goal

pub received-requires : goal.received-requires
received-requires c = (listened_packet c.listen-found.ensures c.in-Packet.is).head_is

pub returns-in-Nothing : goal.returns-in-Nothing
returns-in-Nothing c = step_nothing c.listen-found.ensures c.in-Nothing.is c.stay.ensures

pub returns-in-Refused : goal.returns-in-Refused
returns-in-Refused c = step_refused c.listen-found.ensures c.told-gather c.in-Refused.is c.sound.ensures c.stay-in-Refused.ensures

pub returns-in-Packet : goal.returns-in-Packet
returns-in-Packet c = step_packet c.listen-found.ensures c.told-gather c.in-Packet.is c.sound-in-Packet.ensures c.received.ensures
