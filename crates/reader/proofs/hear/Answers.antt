-- `reader::hear` meets its contract: 13 twice, then nothing, a refusal of the framer, or a packet. Assumes nothing.
use Rattle.reader.proofs.Hearing.{hear_answer, hear_copy, hear_quiet, hear_refused, hear_packet}
use Rattle.framer.proofs.TwoHalves.{listened_packet}
use borrow.Author.Rules.{rules}
use Rattle.reader.proofs.hear.Goals as goal

pub returns-in_default : goal.returns-in_default
returns-in_default c = hear_answer c.in_default.ensures.cases c.no_room.ensures

pub returns-in_default-first_chunk_mut : goal.returns-in_default-first_chunk_mut
returns-in_default-first_chunk_mut c =
    let front = c.in-Some.ensures.cases in
    hear_copy front.enough front.same c.in_default-first_chunk_mut.ensures.cases c.no_room-in_default-first_chunk_mut.ensures

pub received-requires : goal.received-requires
received-requires c = let w = listened_packet c.listen-found.ensures c.in-Packet.is in
    let s = c.sound_core-in-Packet.ensures in
    (s.few, w.least, w.most)

pub returns-in-Nothing : goal.returns-in-Nothing
returns-in-Nothing c =
    let front = c.in-Some.ensures.cases in
    let room = c.in-Some-first_chunk_mut.ensures.cases in
    hear_quiet c.listen-found.ensures front.enough room.enough front.same room.same c.in-Nothing.is c.quiet.ensures

pub returns-in-Refused : goal.returns-in-Refused
returns-in-Refused c =
    let front = c.in-Some.ensures.cases in
    let room = c.in-Some-first_chunk_mut.ensures.cases in
    hear_refused c.listen-found.ensures front.enough room.enough c.sound_core.ensures front.same room.same (search rules) c.told-answers c.in-Refused.is c.no_packet.ensures c.settle.ensures

pub returns-in-Packet : goal.returns-in-Packet
returns-in-Packet c =
    let front = c.in-Some.ensures.cases in
    let room = c.in-Some-first_chunk_mut.ensures.cases in
    hear_packet c.listen-found.ensures front.enough room.enough c.sound_core-in-Packet.ensures front.same room.same (search rules) (search rules) c.in-Packet.is c.received.ensures
