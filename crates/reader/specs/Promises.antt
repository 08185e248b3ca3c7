-- What the reader's calls promise: what is told, the next state, the control value, and every byte of each lent buffer and room.
use Rattle.std.specs.Prelude.{ℕ, ◌≤◌, Bool, true, false, List, [], ◌∷◌, ◌≡◌, None, Result, Ok, Err, ltb, leb, length, get_or, take}
use Rattle.words.specs.Lists.{pick, either, over}
use Rattle.words.specs.Machine.{Done}
use Rattle.packet.specs.Opcodes.{host, reader}
use Rattle.packet.specs.Packet.{data_in, unmarked, is_answer}
use Rattle.packet.specs.Sizes.{packet_size}
use Rattle.packet.specs.declared.Refusal.{Refusal}
use Rattle.packet.specs.declared.Refusal.TheVariants as refusal
use Rattle.framer.specs.Framer as Line
use Rattle.framer.specs.Framer.{packet, refused as noPacket, framer_step}
use Rattle.framer.specs.Halves.{line_in, kept_in, received_in, idle_halves, halves_with, listened_of, buffer_after, tells_nothing, accepted_of}
use Rattle.framer.specs.declared.Halves.{Halves}
use Rattle.framer.specs.declared.Event.{Event}
use Rattle.sender.specs.Sender.{SenderState, Sent, sender_step, heed_of}
use Rattle.sender.specs.Promises as sending
use Rattle.sender.specs.declared.Heard.{Heard}
use Rattle.sender.specs.declared.Heard.TheVariants.{TimeOut}
use Rattle.sender.specs.declared.Outcome.TheVariants as outcome
use Rattle.sender.specs.declared.Sender.{Sender}
use Rattle.sender.specs.declared.Sending.{Sending}
use Rattle.table.specs.Table.{Values, Outcome as Settled, done, refused as unsettled, power_up}
use Rattle.table.specs.Promises.{values_of, table_of}
use Rattle.table.specs.declared.Table.{Table}
use Rattle.saved.specs.Saved.{edition1, read_form}
use Rattle.commands.specs.Commands.{fresh, judged}
use Rattle.commands.specs.Promises.{beep_of, device_of, device_from}
use Rattle.commands.specs.declared.Command.{Command}
use Rattle.commands.specs.declared.Acted.{Acted}
use Rattle.commands.specs.declared.Device.{Device}
use Rattle.reader.specs.Reader.{CoreState, ReaderState, Output, refused, repeated, beeped, switched, answered, sent, reader_answer_size, handshake, answer_to, acts, packet_step, sender_hears, reader_step}
use Rattle.reader.specs.declared.Told.{Told}
use Rattle.reader.specs.declared.Told.TheVariants as told
use Rattle.reader.specs.declared.Core.{Core}
use Rattle.reader.specs.declared.Stepped.{Stepped}
use Rattle.reader.specs.declared.Reader.{Reader}
use Rattle.reader.specs.declared.Taken.{Taken}
use Rattle.reader.specs.declared.Started.{Started}

-- ---- the answers that are enums

unfoldable pub told_of : List Output → Told
told_of [] = told.Nothing
told_of (refused r ∷ xs) = told.Refused r
told_of (repeated ∷ xs) = told.Repeated
told_of (beeped row ∷ xs) = told.Acted (beep_of (row ∷ []))
told_of (switched d ∷ xs) = told.Acted None
told_of (answered bytes ∷ xs) = told.Nothing
told_of (sent x ∷ xs) = told.Nothing

-- The bytes that go out as the answer, and what the sender gave out.
unfoldable pub answer_of : List Output → List ℕ
answer_of [] = []
answer_of (refused r ∷ xs) = answer_of xs
answer_of (repeated ∷ xs) = answer_of xs
answer_of (beeped row ∷ xs) = answer_of xs
answer_of (switched d ∷ xs) = answer_of xs
answer_of (answered bytes ∷ xs) = bytes
answer_of (sent x ∷ xs) = answer_of xs

unfoldable pub sent_of : List Output → List Sent
sent_of [] = []
sent_of (refused r ∷ xs) = sent_of xs
sent_of (repeated ∷ xs) = sent_of xs
sent_of (beeped row ∷ xs) = sent_of xs
sent_of (switched d ∷ xs) = sent_of xs
sent_of (answered bytes ∷ xs) = sent_of xs
sent_of (sent x ∷ xs) = x ∷ sent_of xs

-- ---- what control value and buffers stand for

-- Any control value is taken: an answer longer than the buffer is none.
unfoldable pub last_answer_of : ℕ → ℕ
last_answer_of n = pick (leb n reader_answer_size) n 0

abbrev pub sound_core : Reader → Core
sound_core r = record { last_answer = last_answer_of r.last_answer; device = r.device; sender = r.sender }

unfoldable pub core_of : Core → List ℕ → List ℕ → List ℕ → CoreState
core_of c last answers message = record { device = device_of c.device; last = unmarked last; last_answer = take c.last_answer answers; sender = sending.state_of c.sender message }

unfoldable pub state_of : Reader → List ℕ → List ℕ → List ℕ → ReaderState
state_of r line answers message = record { line = line_in r.line line; core = core_of (sound_core r) (kept_in r.line line) answers message }

-- ---- the control value afterwards

-- A command that was acted on is the last accepted packet, and stays where it was received.
abbrev pub accepts_name : Told → Bool
accepts_name told.Nothing = false
accepts_name (told.Refused r) = false
accepts_name (told.Acted b) = true
accepts_name told.Repeated = false

unfoldable pub accepts : List Output → Bool
accepts os = accepts_name (told_of os)

-- The sender's control value after a packet.
unfoldable pub sender_hearing : Sender → List ℕ → Heard → Sender
sender_hearing s message h = sending.control_after (sending.sound_of s) message h (sender_step (sending.state_of s message) h).told

abbrev pub heeded : List ℕ → Heard
heeded body = heed_of host (get_or body 1 0) (get_or body 2 0) (get_or body 3 0) (data_in body)

unfoldable pub sender_after : Sender → List ℕ → List ℕ → Sender
sender_after s message body = pick (is_answer (get_or body 1 0)) (sender_hearing s message (heeded body)) s

-- Its state: only an ACK or NAK goes to the sender.
abbrev pub sender_next : SenderState → List ℕ → SenderState
sender_next s body = pick (is_answer (get_or body 1 0)) (sender_step s (heeded body)).next s

abbrev pub core_after : Done CoreState Output → Sender → Core
core_after d s = record { last_answer = length d.next.last_answer; device = device_from d.next.device; sender = s }

abbrev pub reader_of : Halves → Core → Reader
reader_of h c = record { line = h; last_answer = c.last_answer; device = c.device; sender = c.sender }

-- ---- promises

abbrev pub on_control : Values → Reader
on_control v = record { line = idle_halves; last_answer = 0; device = device_from (fresh v); sender = sending.idle_control false }

pub record SwitchedOn (t : Table) (r : Reader) : Type 0 where
  pub is : r ≡ on_control (power_up (values_of t))

pub record PowersUp (reader r : Reader) : Type 0 where
  pub is : r ≡ on_control (power_up (values_of reader.device.table))

-- The control value with another table: the line's framer is left alone, and no packet is the last accepted one.
abbrev pub with_table : Reader → Table → Reader
with_table r t =
    record {
      line = halves_with r.line.framer r.line.second 0;
      last_answer = 0;
      device = record { table = t; switches = r.device.switches };
      sender = r.sender;
    }

unfoldable pub loaded_of : Reader → Settled → Result Reader Refusal
loaded_of r (done v) = Ok (with_table r (table_of v))
loaded_of r (unsettled x) = Err x

-- The reader with the set that was read, or this refusal and nothing else: the caller's reader is its own, and stays.
pub record Loads (reader : Reader) (form : List ℕ) (r : Result Reader Refusal) : Type 0 where
  pub is : r ≡ loaded_of reader (read_form edition1 form)

-- What the caller has then: the new reader, or on a refusal its own as it was.
abbrev pub left_of : Reader → Result Reader Refusal → Reader
left_of r (Ok next) = next
left_of r (Err x) = r

-- Number 13 is tested first, and the event is then not taken: room for the longest answer, and for a packet.
unfoldable pub too_small : List ℕ → List ℕ → Bool
too_small answer copy = either (ltb (length answer) reader_answer_size) (ltb (length copy) packet_size)

-- What a step d of the core leaves: what is told, the control value with the sender s', and every buffer.
pub record Steps (d : Done CoreState Output) (s' : Sender) (answers answer copy : List ℕ) (r : Stepped) (answers' answer' copy' : List ℕ) : Type 0 where
  pub told_is : r.told ≡ told_of d.told
  pub count_is : r.answer ≡ length (answer_of d.told)
  pub outcome_is : r.outcome ≡ sending.name_of (sent_of d.told)
  pub core_is : r.core ≡ core_after d s'
  pub answers_is : answers' ≡ over d.next.last_answer answers
  pub answer_is : answer' ≡ over (answer_of d.told) answer
  pub copy_is : copy' ≡ over (sending.copy_of (sent_of d.told)) copy

-- The sender hears only what the framer lets through.
unfoldable pub sender_through : Sender → List ℕ → List Line.Heard → Sender
sender_through s message [] = s
sender_through s message (packet body ∷ hs) = sender_after s message body
sender_through s message (noPacket r ∷ hs) = s

-- Where the framer tells nothing, only its own part of the control value is written. The rest stays as it was read: also the length of an answer
-- that its buffer cannot have, which is still read as none.
unfoldable pub control_after : Reader → List ℕ → List ℕ → Event → Done ReaderState Output → Reader
control_after reader line message e d =
    record {
      line = pick (accepts d.told) (accepted_of (listened_of reader.line line e).halves (length d.next.core.last)) (listened_of reader.line line e).halves;
      last_answer = pick (tells_nothing reader.line line e) reader.last_answer (length d.next.core.last_answer);
      device = device_from d.next.core.device;
      sender = sender_through reader.sender message (framer_step (line_in reader.line line) e).told;
    }

-- The event is not taken.
abbrev pub no_room_of : Reader → Taken
no_room_of reader = record { reader = reader; told = told.Refused refusal.Room; answer = 0; outcome = outcome.Nothing }

pub record NoRoom (reader : Reader) (r : Taken) : Type 0 where
  pub is : r ≡ no_room_of reader

pub record Hears (reader : Reader) (line answers message answer copy : List ℕ) (e : Event) (r : Taken) (line' answers' answer' copy' : List ℕ) : Type 0 where
  pub is :
      r
      ≡ pick (too_small answer copy) (no_room_of reader)
      (record {
        reader = control_after reader line message e (reader_step (state_of reader line answers message) e);
        told = told_of (reader_step (state_of reader line answers message) e).told;
        answer = length (answer_of (reader_step (state_of reader line answers message) e).told);
        outcome = sending.name_of (sent_of (reader_step (state_of reader line answers message) e).told);
      })
  pub next : state_of r.reader line' answers' message ≡ pick (too_small answer copy) (state_of reader line answers message) (reader_step (state_of reader line answers message) e).next
  pub line_is : line' ≡ pick (too_small answer copy) line (buffer_after reader.line line e)
  pub answers_is : answers' ≡ pick (too_small answer copy) answers (over (reader_step (state_of reader line answers message) e).next.core.last_answer answers)
  pub answer_is : answer' ≡ over (pick (too_small answer copy) [] (answer_of (reader_step (state_of reader line answers message) e).told)) answer
  pub copy_is : copy' ≡ over (pick (too_small answer copy) [] (sending.copy_of (sent_of (reader_step (state_of reader line answers message) e).told))) copy

-- A start and a time-out are the sender's; nothing else of the reader changes.
abbrev pub with_sender : Reader → Sender → Reader
with_sender reader s = record { line = reader.line; last_answer = reader.last_answer; device = reader.device; sender = s }

abbrev pub started_of : Reader → Sending → Started
started_of reader s = record { reader = with_sender reader s.sender; outcome = s.outcome }

pub record Starts (reader : Reader) (message copy : List ℕ) (code : ℕ) (bytes : List ℕ) (r : Started) (message' copy' : List ℕ) : Type 0 where
  pub sending' : Sending
  pub starts : sending.Starts reader.sender message copy code bytes sending' message' copy'
  pub is : r ≡ started_of reader sending'

pub record TimesOut (reader : Reader) (message copy : List ℕ) (r : Started) (copy' : List ℕ) : Type 0 where
  pub sending' : Sending
  pub hears : sending.Hears reader.sender message copy TimeOut sending' copy'
  pub is : r ≡ started_of reader sending'

-- ---- the functions inside, each against its own level of the definition

-- The framer tells nothing.
abbrev pub quiet_of : Reader → Halves → Taken
quiet_of reader h =
    record {
      reader = record { line = h; last_answer = reader.last_answer; device = reader.device; sender = reader.sender };
      told = told.Nothing;
      answer = 0;
      outcome = outcome.Nothing;
    }

pub record Quiet (reader : Reader) (h : Halves) (r : Taken) : Type 0 where
  pub is : r ≡ quiet_of reader h

pub record SoundCore (reader : Reader) (r : Core) : Type 0 where
  pub is : r ≡ sound_core reader
  pub few : r.last_answer ≤ reader_answer_size

pub record Handshake (d : Device) (r : Bool) : Type 0 where
  pub is : r ≡ handshake (device_of d)

-- So many bytes, and these at the front of the answer room.
pub record Writes (bytes answer : List ℕ) (r : ℕ) (answer' : List ℕ) : Type 0 where
  pub is : r ≡ length bytes
  pub most : r ≤ reader_answer_size
  pub answer_is : answer' ≡ over bytes answer

pub record WithTable (reader : Reader) (t : Table) (r : Reader) : Type 0 where
  pub is : r ≡ with_table reader t

-- A step that the sender has no part in.
abbrev pub step_of : Core → Told → ℕ → Stepped
step_of c t n = record { core = c; told = t; answer = n; outcome = outcome.Nothing }

pub record StepOf (c : Core) (t : Told) (n : ℕ) (r : Stepped) : Type 0 where
  pub is : r ≡ step_of c t n

-- What the sender did; nothing else of the reader changes.
pub record SentBy (reader : Reader) (s : Sending) (r : Started) : Type 0 where
  pub is : r ≡ started_of reader s

pub record Joined (h : Halves) (s : Stepped) (r : Taken) : Type 0 where
  pub is : r ≡ record { reader = reader_of h s.core; told = s.told; answer = s.answer; outcome = s.outcome }

pub record Accepts (t : Told) (r : Bool) : Type 0 where
  pub is : r ≡ accepts_name t

-- A step that looks at device and sender alone, and leaves the kept answer and the copy room as they are.
pub record Leaves (step : CoreState → Done CoreState Output) (c : Core) (answer : List ℕ) (r : Stepped) (answer' : List ℕ) : Type 0 where
  pub steps : (last answers message copy : List ℕ) → c.last_answer ≤ length answers → Steps (step (core_of c last answers message)) c.sender answers answer copy r answers answer' copy

-- A step on a command's body: the copy room and the sender's message are not looked at.
pub record Judges (step : CoreState → List ℕ → Done CoreState Output) (c : Core) (body last answers answer : List ℕ) (r : Stepped) (answers' answer' : List ℕ) : Type 0 where
  pub steps : (message copy : List ℕ) → Steps (step (core_of c last answers message) body) c.sender answers answer copy r answers' answer' copy

-- A command that is no resent equal: 7 to 9 by its verdict, or it is acted on.
pub record Performs (c : Core) (k : Command) (status : ℕ) (carried answers answer : List ℕ) (r : Stepped) (answers' answer' : List ℕ) : Type 0 where
  pub steps :
      (body last message copy : List ℕ) →
      carried ≡ data_in body →
      Steps (acts (core_of c last answers message) k body (judged (device_of c.device) k status carried)) c.sender answers answer copy r answers' answer' copy

pub record ToSender (c : Core) (body message copy : List ℕ) (r : Stepped) (copy' : List ℕ) : Type 0 where
  pub steps :
      (last answers answer : List ℕ) →
      c.last_answer ≤ length answers →
      Steps (sender_hears (core_of c last answers message) (sender_step (sending.state_of c.sender message) (heeded body))) (sender_hearing c.sender message (heeded body)) answers answer copy r answers answer copy'
  -- The sender's control value stands for what its step leaves.
  pub stands : sending.state_of (sender_hearing c.sender message (heeded body)) message ≡ (sender_step (sending.state_of c.sender message) (heeded body)).next

pub record Again (c : Core) (answers answer : List ℕ) (r : Stepped) (answer' : List ℕ) : Type 0 where
  pub is : r ≡ step_of c told.Repeated c.last_answer
  pub answer_is : answer' ≡ over (take c.last_answer answers) answer

pub record Acts (c : Core) (acted : Acted) (k : Command) (carried answers answer : List ℕ) (r : Stepped) (answers' answer' : List ℕ) : Type 0 where
  pub is :
      r
      ≡ step_of (record { last_answer = length (answer_to (device_of c.device) k carried); device = acted.device; sender = c.sender }) (told.Acted acted.beep)
      (length (answer_to (device_of c.device) k carried))
  pub answers_is : answers' ≡ over (answer_to (device_of c.device) k carried) answers
  pub answer_is : answer' ≡ over (answer_to (device_of c.device) k carried) answer

pub record Settles (h : Halves) (n : ℕ) (s : Stepped) (r : Taken) : Type 0 where
  pub is :
      r
      ≡ record {
        reader = reader_of (pick (accepts_name s.told) (accepted_of h n) h) s.core;
        told = s.told;
        answer = s.answer;
        outcome = s.outcome;
      }

-- A packet of n bytes in the half that receives.
pub record Receives (h : Halves) (c : Core) (n : ℕ) (line answers message answer copy : List ℕ) (r : Taken) (answers' answer' copy' : List ℕ) : Type 0 where
  pub stepped : Stepped
  pub steps :
      Steps (packet_step (core_of c (kept_in h line) answers message) (received_in h line n)) (sender_after c.sender message (received_in h line n)) answers answer copy stepped answers' answer' copy'
  pub stands : sending.state_of (sender_after c.sender message (received_in h line n)) message ≡ sender_next (sending.state_of c.sender message) (received_in h line n)
  pub settles : Settles h n stepped r
