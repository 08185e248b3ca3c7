-- §9, the hub: what it does with each event, and what goes out.
use Rattle.std.specs.Prelude.{ℕ, true, false, List, [], eqb, ltb, length, get_or}
use Rattle.words.specs.Lists.{pick}
use Rattle.words.specs.Machine.{Done}
use Rattle.packet.specs.Opcodes.{reader, decode_data}
use Rattle.packet.specs.Packet.{data_in, status_allowed, is_answer}
use Rattle.packet.specs.Refusals.{number_of}
use Rattle.packet.specs.declared.Refusal.{Refusal}
use Rattle.packet.specs.declared.Refusal.TheVariants.{Source, Status, Opcode, Data}
use Rattle.framer.specs.Framer.{hearing, deaf, Heard, packet, refused as noPacket}
use Rattle.framer.specs.Behind.{Behind, framed}
use Rattle.framer.specs.declared.Event.{Event}
use Rattle.framer.specs.declared.Event.TheVariants.{Byte, CharacterGap, MessageGap}
use Rattle.hub.specs.Joiner.{none, Joiner, Output, refusing, join_step}

-- The hub is the joiner behind a framer.
abbrev pub HubState : Type 0
HubState = Behind Joiner

-- Switched on: nothing begun, no bar, no packet accepted, nothing gathered.
abbrev pub switched_on : HubState
switched_on = record { line = hearing []; core = record { barred = false; last = []; gathered = none } }

abbrev pub refuses : Joiner → Refusal → Done Joiner Output
refuses j r = record { next = j; told = refusing r }

-- CMD_ACK and CMD_NAK, right or wrong, do nothing. Else 4 to 7 in rising order, then the joining.
unfoldable pub decode_step : Joiner → List ℕ → Done Joiner Output
decode_step j body = pick (eqb (length (data_in body)) 0) (refuses j Data) (join_step j body)

unfoldable pub packet_step : Joiner → List ℕ → Done Joiner Output
packet_step j body =
    pick (is_answer (get_or body 1 0)) (record { next = j; told = [] })
    (pick (eqb (get_or body 2 0) reader)
    (pick (status_allowed (get_or body 1 0) (get_or body 3 0))
    (pick (eqb (get_or body 1 0) decode_data) (decode_step j body) (refuses j Opcode))
    (refuses j Status))
    (refuses j Source))

-- What the framer tells: a packet, or a refusal of its own, which changes nothing here.
unfoldable pub heard_step : Joiner → Heard → Done Joiner Output
heard_step j (packet body) = packet_step j body
heard_step j (noPacket r) = refuses j r

-- A message gap gives its refusal 3 if one is due, then clears everything.
unfoldable pub cleared : Event → HubState → HubState
cleared (Byte b) hub = hub
cleared CharacterGap hub = hub
cleared MessageGap hub = switched_on

unfoldable pub hub_step : HubState → Event → Done HubState Output
hub_step hub e = record { next = cleared e (framed heard_step hub e).next; told = (framed heard_step hub e).told }

-- What a refusal changes, for the theorems that say so: the packet begun is ended, 1 and 2 make the framer deaf, 10 drops what was gathered and bars.
abbrev pub after_refusal : Refusal → HubState → HubState
after_refusal r s =
    record {
      line = pick (ltb (number_of r) 3) deaf (hearing []);
      core = pick (eqb (number_of r) 10) (record { barred = true; last = s.core.last; gathered = none }) s.core;
    }
