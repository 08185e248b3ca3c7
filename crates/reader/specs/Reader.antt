-- §6, §7, §10, §11 and §21: the reader's whole end: framer, command side and sender, and a saved set read into it.
use Rattle.std.specs.Prelude.{ℕ, ◌+◌, Bool, true, false, List, [], ◌∷◌, ◌++◌, Option, Some, None, map, eqb, leb, get_or}
use Rattle.words.specs.Lists.{pick, both}
use Rattle.words.specs.Machine.{Done, given}
use Rattle.packet.specs.Opcodes.{host, reader, param_send}
use Rattle.packet.specs.Packet.{body_of, seal, data_in, status_allowed, reply_body, unmarked, resent_equal, is_answer}
use Rattle.packet.specs.Refusals.{number_of, nak_bytes}
use Rattle.packet.specs.Sizes.{head_size, checksum_size}
use Rattle.packet.specs.declared.Refusal.{Refusal}
use Rattle.packet.specs.declared.Refusal.TheVariants.{Source, Status, Opcode, Data}
use Rattle.packet.specs.declared.Reply.TheVariants.{Ack}
use Rattle.framer.specs.Framer.{hearing, Heard, packet, refused as noPacket}
use Rattle.framer.specs.Behind.{Behind, framed}
use Rattle.framer.specs.declared.Event.{Event}
use Rattle.sender.specs.Sender.{SenderState, nothing_out, waits, Sent, start_step, sender_step, heed_of}
use Rattle.sender.specs.declared.Heard.TheVariants.{TimeOut}
use Rattle.table.specs.Rows.{pairs_size}
use Rattle.table.specs.Table.{Values, Outcome as Settled, done, refused as unsettled, power_up, value_of, answer_data}
use Rattle.saved.specs.Saved.{edition1, read_form}
use Rattle.commands.specs.Commands.{DeviceState, fresh, named_by, length_allowed, Acted, denied, acted, effect}
use Rattle.commands.specs.declared.Command.{Command}
use Rattle.commands.specs.declared.Command.TheVariants.{ParamSend, ParamRequest, ParamDefaults, StartSession, StopSession, Beep, LedOn, LedOff, ScanEnable, ScanDisable, AimOn, AimOff}

-- The device, the last accepted packet's body without its mark (no bytes: none) with the answer it had, and the sender.
pub record CoreState : Type 0 where
  pub device : DeviceState
  pub last : List ℕ
  pub last_answer : List ℕ
  pub sender : SenderState

abbrev pub ReaderState : Type 0
ReaderState = Behind CoreState

-- What happens, in the order of happening.
pub data Output : Type 0 where
  refused : Refusal → Output
  repeated : Output
  beeped : List ℕ → Output
  switched : DeviceState → Output
  answered : List ℕ → Output
  sent : Sent → Output

-- The longest answer of a reader: a PARAM_SEND with all parameters.
abbrev pub reader_answer_size : ℕ
reader_answer_size = head_size + pairs_size + checksum_size

-- 9Fh is 1.
unfoldable pub handshake : DeviceState → Bool
handshake d = eqb (value_of d.values 0x9F) 1

-- ACK and NAK go out only if 9Fh was 1 before the packet.
unfoldable pub if_handshake : DeviceState → List ℕ → List ℕ
if_handshake d bytes = pick (handshake d) bytes []

abbrev pub refuses : CoreState → Refusal → Done CoreState Output
refuses c r = record { next = c; told = refused r ∷ given answered (if_handshake c.device (nak_bytes reader r)) }

-- A reader whose sender waits for an answer sends nothing for refusals 1 to 3.
unfoldable pub no_packet_step : CoreState → Refusal → Done CoreState Output
no_packet_step c r = pick (waits c.sender) (record { next = c; told = refused r ∷ [] }) (refuses c r)

-- PARAM_REQUEST is answered by a PARAM_SEND, in any case; the others by ACK.
unfoldable pub request_bytes : Values → List ℕ → List ℕ
request_bytes v asked = seal (body_of param_send reader 0 (answer_data v asked))

unfoldable pub is_request : Command → Bool
is_request ParamSend = false
is_request ParamRequest = true
is_request ParamDefaults = false
is_request StartSession = false
is_request StopSession = false
is_request Beep = false
is_request LedOn = false
is_request LedOff = false
is_request ScanEnable = false
is_request ScanDisable = false
is_request AimOn = false
is_request AimOff = false

unfoldable pub answer_to : DeviceState → Command → List ℕ → List ℕ
answer_to d k carried = pick (is_request k) (request_bytes d.values carried) (if_handshake d (seal (reply_body reader Ack)))

-- Acted on: the packet is now the last accepted one.
unfoldable pub acts : CoreState → Command → List ℕ → Acted → Done CoreState Output
acts c k body (denied r) = refuses c r
acts c k body (acted d rows) =
    record {
      next = record { device = d; last = unmarked body; last_answer = answer_to c.device k (data_in body); sender = c.sender };
      told = map beeped rows ++ (switched d ∷ given answered (answer_to c.device k (data_in body)));
    }

-- A packet with the resend mark, equal to the last accepted one apart from that mark, is answered with the same bytes and not acted on;
-- any other is acted on, or denied by 8 or 9.
unfoldable pub command_step : Command → CoreState → List ℕ → Done CoreState Output
command_step k c body =
    pick (resent_equal c.last body) (record { next = c; told = repeated ∷ given answered c.last_answer })
    (acts c k body (effect c.device k (get_or body 3 0) (data_in body)))

-- 4 to 7 in rising order, then the command.
unfoldable pub known_step : Command → CoreState → List ℕ → Done CoreState Output
known_step k c body = pick (length_allowed k (data_in body)) (command_step k c body) (refuses c Data)

unfoldable pub named_step : Option Command → CoreState → List ℕ → Done CoreState Output
named_step None c body = refuses c Opcode
named_step (Some k) c body = known_step k c body

unfoldable pub judged_step : CoreState → List ℕ → Done CoreState Output
judged_step c body =
    pick (eqb (get_or body 2 0) host)
    (pick (status_allowed (get_or body 1 0) (get_or body 3 0)) (named_step (named_by (get_or body 1 0)) c body) (refuses c Status))
    (refuses c Source)

-- CMD_ACK and CMD_NAK go to the sender and are never refused.
unfoldable pub sender_hears : CoreState → Done SenderState Sent → Done CoreState Output
sender_hears c d = record { next = record { device = c.device; last = c.last; last_answer = c.last_answer; sender = d.next }; told = map sent d.told }

unfoldable pub packet_step : CoreState → List ℕ → Done CoreState Output
packet_step c body =
    pick (is_answer (get_or body 1 0))
    (sender_hears c (sender_step c.sender (heed_of host (get_or body 1 0) (get_or body 2 0) (get_or body 3 0) (data_in body))))
    (judged_step c body)

unfoldable pub heard_step : CoreState → Heard → Done CoreState Output
heard_step c (packet body) = packet_step c body
heard_step c (noPacket r) = no_packet_step c r

unfoldable pub reader_step : ReaderState → Event → Done ReaderState Output
reader_step r e = framed heard_step r e

-- A start, a time-out, and power-up.
unfoldable pub with_core : ReaderState → Done CoreState Output → Done ReaderState Output
with_core r d = record { next = record { line = r.line; core = d.next }; told = d.told }

unfoldable pub start_message : ReaderState → ℕ → List ℕ → Done ReaderState Output
start_message r code m = with_core r (sender_hears r.core (start_step r.core.sender code m))

unfoldable pub time_out : ReaderState → Done ReaderState Output
time_out r = with_core r (sender_hears r.core (sender_step r.core.sender TimeOut))

-- A reader just switched on with these values: nothing begun, nothing out, no packet accepted.
abbrev pub switched_on : Values → ReaderState
switched_on v = record { line = hearing []; core = record { device = fresh v; last = []; last_answer = []; sender = nothing_out false [] } }

-- Power-up copies permanent to present, clears framer and sender and forgets the last accepted packet.
unfoldable pub power_up_reader : ReaderState → ReaderState
power_up_reader r = switched_on (power_up r.core.device.values)

-- A saved set (§21), or a table that is put into the reader (§23), replaces values and locks, and the last accepted packet is forgotten; nothing else changes.
-- Bytes that are no form change nothing.
unfoldable pub with_set : ReaderState → Values → ReaderState
with_set r v =
    record {
      line = r.line;
      core = record { device = record { values = v; switches = r.core.device.switches }; last = []; last_answer = []; sender = r.core.sender };
    }

unfoldable pub settled : ReaderState → Settled → Done ReaderState Output
settled r (done v) = record { next = with_set r v; told = [] }
settled r (unsettled x) = record { next = r; told = refused x ∷ [] }

unfoldable pub load_set : ReaderState → List ℕ → Done ReaderState Output
load_set r bytes = settled r (read_form edition1 bytes)

-- The bytes that answer a refusal, for the theorems that say so: NAK with its cause, if 9Fh is 1; none for 1 to 3 while the sender waits for an answer,
-- and none for 13.
unfoldable pub refusal_answer : CoreState → Refusal → List ℕ
refusal_answer c r = pick (both (leb (number_of r) 3) (waits c.sender)) [] (if_handshake c.device (nak_bytes reader r))
