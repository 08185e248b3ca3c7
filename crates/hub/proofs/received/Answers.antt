-- `hub::received` meets its contract: the body and the last accepted packet, each where it stands, go to the joining. Assumes nothing.
use Rattle.hub.proofs.Hearing.{received_packet}
use Rattle.hub.proofs.received.Goals as goal

pub invariant_of-packets : goal.invariant_of-packets
invariant_of-packets c = record { headed = rw c.received.ensures.is c.requires }

pub returns : goal.returns
returns c = received_packet c.received.ensures c.kept.ensures c.judge-joined.ensures c.settle.ensures
