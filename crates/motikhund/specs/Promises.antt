-- What each exported call promises. A control value under its size, or a room under what the call asks for, is number 13 with
-- nothing changed; then a number that names no event or reply does nothing. Else it is the library's call on what the bytes read as, with
-- that call's own promise; what it told stands in numbers, and the control bytes afterwards are those of the control value that it left, or
-- as they were where a start or a saved set was refused, or no byte of a block was taken. Only the short way writes less of them.
use Rattle.std.specs.Prelude.{ℕ, Bool, true, false, List, [], ◌∷◌, ◌≡◌, Result, eqb}
use Rattle.packet.specs.Opcodes.{host}
use Rattle.packet.specs.Packet.{size_of}
use Rattle.packet.specs.Promises as packet
use Rattle.packet.specs.Sizes.{packet_size, answer_size, message_size}
use Rattle.packet.specs.declared.Head.{Head}
use Rattle.packet.specs.declared.Refusal.{Refusal}
use Rattle.framer.specs.Framer.{hearing}
use Rattle.framer.specs.Promises as framing
use Rattle.framer.specs.Halves as halves
use Rattle.framer.specs.declared.Going.{Going}
use Rattle.framer.specs.declared.Going.TheVariants.{On, Woken, Left}
use Rattle.framer.specs.declared.Framed.{Framed}
use Rattle.hub.specs.Promises as joining
use Rattle.hub.specs.Block.{Block, HearsBlock}
use Rattle.hub.specs.declared.Taken.{Taken}
use Rattle.sender.specs.Promises as sending
use Rattle.sender.specs.declared.Heard.{Heard}
use Rattle.sender.specs.declared.Sending.{Sending}
use Rattle.sender.specs.declared.Outcome.{Outcome}
use Rattle.table.specs.Promises as settings
use Rattle.table.specs.declared.Table.{Table}
use Rattle.saved.specs.Saved.{edition1, read_form}
use Rattle.saved.specs.Promises as saved
use Rattle.reader.specs.Reader.{reader_answer_size}
use Rattle.reader.specs.Promises as reading
use Rattle.reader.specs.declared.Reader.{Reader}
use Rattle.reader.specs.declared.Taken.{Taken as Commanded}
use Rattle.reader.specs.declared.Started.{Started}
use Rattle.motikhund.specs.Lent.{at_least, Asks, IfNamed, KeptUnless, Kept, Made}
use Rattle.motikhund.specs.Control.{framer_control_size, hub_control_size, sender_control_size, reader_control_size, number_in, number_bytes, flag_in, flag_byte, framer_in, framer_bytes, hub_in, hub_bytes, sender_in, sender_bytes, reader_in, reader_bytes, switch_values, permanent_changed}
use Rattle.motikhund.specs.Numbers.{is_event, event_of, heard_of, heard_number, is_reply, reply_of, no_head, result_number, is_err, checked_values, found_number, found_values, hub_number, hub_values, block_values, outcome_number, outcome_value, start_values, is_refused, waits_number, reader_number, reader_values, settled_number}

-- ---- the packet: each call asks for its own room

pub record PacketChecks (s : List ℕ) (r : ℕ) (head : List ℕ) : Type 0 where
  pub found : Result Head Refusal
  pub checks : packet.Check s found
  pub told : r ≡ result_number found 100
  pub values : head ≡ checked_values found

pub record PacketBuilds (room : List ℕ) (opcode source status : ℕ) (carried : List ℕ) (r : ℕ) (room' : List ℕ) (size : ℕ) : Type 0 where
  pub made : Result ℕ Refusal
  pub builds : packet.Build room opcode source status carried made room'
  pub told : r ≡ result_number made 101
  pub value : size ≡ size_of made

pub record PacketReplies (room : List ℕ) (source reply r : ℕ) (room' : List ℕ) (size : ℕ) : Type 0 where
  pub made : Result ℕ Refusal
  pub answers : packet.Answer room source (reply_of reply) made room'
  pub told : r ≡ result_number made 101
  pub value : size ≡ size_of made

-- Nothing is written, and this number told.
abbrev pub Unwritten : ℕ → List ℕ → ℕ → List ℕ → ℕ → Type 0
Unwritten n room r room' size = (r ≡ n) × (room' ≡ room) × (size ≡ 0)

pub record PacketAnswers (room : List ℕ) (source reply r : ℕ) (room' : List ℕ) (size : ℕ) : Type 0 where
  pub asks :
      Asks (at_least answer_size room ∷ []) (Unwritten 13 room r room' size)
      (IfNamed (is_reply reply) (Unwritten 0 room r room' size) (PacketReplies room source reply r room' size))

-- ---- the framer

abbrev pub FramerIdle : List ℕ → ℕ → List ℕ → Type 0
FramerIdle control r control' = Made framer_control_size framer_in framer_bytes framing.Idle control r control'

pub record FramerTakes (control line : List ℕ) (event r : ℕ) (control' line' head : List ℕ) : Type 0 where
  pub framed : Framed
  pub frames : framing.Frames (framer_in control) line (event_of event) framed line'
  pub told : r ≡ found_number framed.found
  pub values : head ≡ found_values framed.found
  pub kept : Kept framer_in framer_bytes framed.framer control control'

-- The event is not taken: nothing has changed, and this number is told.
abbrev pub FramerStays : ℕ → List ℕ → List ℕ → ℕ → List ℕ → List ℕ → List ℕ → Type 0
FramerStays n control line r control' line' head = (r ≡ n) × (control' ≡ control) × (line' ≡ line) × (head ≡ no_head)

pub record FramerHears (control line : List ℕ) (event r : ℕ) (control' line' head : List ℕ) : Type 0 where
  pub asks :
      Asks (at_least framer_control_size control ∷ at_least packet_size line ∷ []) (FramerStays 13 control line r control' line' head)
      (IfNamed (is_event event) (FramerStays 0 control line r control' line' head) (FramerTakes control line event r control' line' head))

-- ---- the short way of hub and reader: the front of a control value, goingSize bytes, is all that it is lent beside the line

-- Whether the event was taken, and what is written then: the count, or all bytes of a framer that hears again.
abbrev pub went_on : Going → Bool
went_on (On n) = true
went_on Woken = true
went_on Left = false

abbrev pub FrontAfter : Going → List ℕ → List ℕ → Type 0
FrontAfter (On n) front front' = Kept number_in number_bytes n front front'
FrontAfter Woken front front' = Kept framer_in framer_bytes (framing.control_of (hearing [])) front front'
FrontAfter Left front front' = front' ≡ front

pub record GoesOn (front line : List ℕ) (event : ℕ) (r : Bool) (front' line' : List ℕ) : Type 0 where
  pub going : Going
  pub goes : halves.GoesOn (framer_in front) (flag_in front 9) line (event_of event) going line'
  pub told : r ≡ went_on going
  pub front_is : FrontAfter going front front'

-- ---- the hub

abbrev pub HubOn : List ℕ → ℕ → List ℕ → Type 0
HubOn control r control' = Made hub_control_size hub_in hub_bytes joining.SwitchedOn control r control'

pub record HubTakes (control line gather answer message : List ℕ) (event r : ℕ) (control' line' gather' answer' message' values : List ℕ) : Type 0 where
  pub taken : Taken
  pub hears : joining.Hears (hub_in control) line gather answer message (event_of event) taken line' gather' answer' message'
  pub told : r ≡ hub_number taken.told
  pub values_are : values ≡ hub_values taken.told taken.answer
  pub kept : Kept hub_in hub_bytes taken.hub control control'

abbrev pub HubStays : ℕ → List ℕ → List ℕ → List ℕ → List ℕ → List ℕ → ℕ → List ℕ → List ℕ → List ℕ → List ℕ → List ℕ → List ℕ → Type 0
HubStays n control line gather answer message r control' line' gather' answer' message' values =
    (r ≡ n) × (control' ≡ control) × (line' ≡ line) × (gather' ≡ gather) × (answer' ≡ answer) × (message' ≡ message) × (values ≡ 0 ∷ 0 ∷ 0 ∷ [])

pub record HubHears (control line gather answer message : List ℕ) (event r : ℕ) (control' line' gather' answer' message' values : List ℕ) : Type 0 where
  pub asks :
      Asks (at_least hub_control_size control ∷ at_least joining.hub_answer_size answer ∷ at_least message_size message ∷ [])
      (HubStays 13 control line gather answer message r control' line' gather' answer' message' values)
      (IfNamed (is_event event) (HubStays 0 control line gather answer message r control' line' gather' answer' message' values)
      (HubTakes control line gather answer message event r control' line' gather' answer' message' values))

-- A block. Where no byte was taken the control bytes are left alone: refused calls change nothing, and no bytes do nothing.
pub record HubTakesBlock (control line gather answer message bytes : List ℕ) (r : ℕ) (control' line' gather' answer' message' values : List ℕ) : Type 0 where
  pub block : Block
  pub hears : HearsBlock (hub_in control) line gather answer message bytes block line' gather' answer' message'
  pub told : r ≡ hub_number block.told
  pub values_are : values ≡ block_values block.told block.answer block.taken
  pub kept : KeptUnless (eqb block.taken 0) hub_in hub_bytes block.hub control control'

pub record HubHearsBlock (control line gather answer message bytes : List ℕ) (r : ℕ) (control' line' gather' answer' message' values : List ℕ) : Type 0 where
  pub asks :
      Asks (at_least hub_control_size control ∷ [])
      ((r ≡ 13) × (control' ≡ control) × (line' ≡ line) × (gather' ≡ gather) × (answer' ≡ answer) × (message' ≡ message) × (values ≡ 0 ∷ 0 ∷ 0 ∷ 0 ∷ []))
      (HubTakesBlock control line gather answer message bytes r control' line' gather' answer' message' values)

-- ---- the sender

abbrev pub SenderIdle : List ℕ → Bool → ℕ → List ℕ → Type 0
SenderIdle control failed r control' = Made sender_control_size sender_in sender_bytes (sending.Idle failed) control r control'

-- What the sender brought, in numbers; and what a start did.
pub record Brings (o : Outcome) (r value : ℕ) : Type 0 where
  pub told : r ≡ outcome_number o
  pub value_is : value ≡ outcome_value o

pub record Begins (o : Outcome) (r : ℕ) (values : List ℕ) : Type 0 where
  pub told : r ≡ outcome_number o
  pub values_are : values ≡ start_values o

pub record SenderBegins (control buffer room : List ℕ) (code : ℕ) (message : List ℕ) (r : ℕ) (control' buffer' room' values : List ℕ) : Type 0 where
  pub sent : Sending
  pub starts : sending.Starts (sender_in control) buffer room code message sent buffer' room'
  pub begins : Begins sent.outcome r values
  pub kept : KeptUnless (is_refused sent.outcome) sender_in sender_bytes sent.sender control control'

pub record SenderStarts (control buffer room : List ℕ) (code : ℕ) (message : List ℕ) (r : ℕ) (control' buffer' room' values : List ℕ) : Type 0 where
  pub asks :
      Asks (at_least sender_control_size control ∷ at_least packet_size room ∷ [])
      ((r ≡ 13) × (control' ≡ control) × (buffer' ≡ buffer) × (room' ≡ room) × (values ≡ 0 ∷ 0 ∷ []))
      (SenderBegins control buffer room code message r control' buffer' room' values)

pub record SenderTakes (control buffer room : List ℕ) (heard r : ℕ) (control' room' : List ℕ) (value : ℕ) : Type 0 where
  pub sent : Sending
  pub hears : sending.Hears (sender_in control) buffer room (heard_of heard) sent room'
  pub brings : Brings sent.outcome r value
  pub kept : Kept sender_in sender_bytes sent.sender control control'

pub record SenderHears (control buffer room : List ℕ) (heard r : ℕ) (control' room' : List ℕ) (value : ℕ) : Type 0 where
  pub asks :
      Asks (at_least sender_control_size control ∷ at_least packet_size room ∷ [])
      ((r ≡ 13) × (control' ≡ control) × (room' ≡ room) × (value ≡ 0))
      (SenderTakes control buffer room heard r control' room' value)

pub record SenderOut (control : List ℕ) (r : ℕ) : Type 0 where
  pub out : Bool
  pub waits : sending.Waits (sender_in control) out
  pub told : r ≡ waits_number out

pub record SenderWaits (control : List ℕ) (r : ℕ) : Type 0 where
  pub asks : Asks (at_least sender_control_size control ∷ []) (r ≡ 13) (SenderOut control r)

pub record SenderHeeds (opcode source status : ℕ) (carried : List ℕ) (r : ℕ) : Type 0 where
  pub heard : Heard
  pub heeds : sending.Heeds host opcode source status carried heard
  pub told : r ≡ heard_number heard

-- ---- the reader

-- Switched on with the house defaults.
pub record FreshReader (r : Reader) : Type 0 where
  pub table : Table
  pub defaults : settings.Defaults table
  pub switched : reading.SwitchedOn table r

abbrev pub ReaderOn : List ℕ → ℕ → List ℕ → Type 0
ReaderOn control r control' = Made reader_control_size reader_in reader_bytes FreshReader control r control'

abbrev pub ReaderPowersUp : List ℕ → ℕ → List ℕ → Type 0
ReaderPowersUp control r control' = Made reader_control_size reader_in reader_bytes (reading.PowersUp (reader_in control)) control r control'

pub record ReaderBegins (control message copy : List ℕ) (code : ℕ) (bytes : List ℕ) (r : ℕ) (control' message' copy' values : List ℕ) : Type 0 where
  pub started : Started
  pub starts : reading.Starts (reader_in control) message copy code bytes started message' copy'
  pub begins : Begins started.outcome r values
  pub kept : KeptUnless (is_refused started.outcome) reader_in reader_bytes started.reader control control'

pub record ReaderStarts (control message copy : List ℕ) (code : ℕ) (bytes : List ℕ) (r : ℕ) (control' message' copy' values : List ℕ) : Type 0 where
  pub asks :
      Asks (at_least reader_control_size control ∷ at_least packet_size copy ∷ [])
      ((r ≡ 13) × (control' ≡ control) × (message' ≡ message) × (copy' ≡ copy) × (values ≡ 0 ∷ 0 ∷ []))
      (ReaderBegins control message copy code bytes r control' message' copy' values)

pub record ReaderWaited (control message copy : List ℕ) (r : ℕ) (control' copy' : List ℕ) (value : ℕ) : Type 0 where
  pub started : Started
  pub times : reading.TimesOut (reader_in control) message copy started copy'
  pub brings : Brings started.outcome r value
  pub kept : Kept reader_in reader_bytes started.reader control control'

pub record ReaderTimesOut (control message copy : List ℕ) (r : ℕ) (control' copy' : List ℕ) (value : ℕ) : Type 0 where
  pub asks :
      Asks (at_least reader_control_size control ∷ at_least packet_size copy ∷ [])
      ((r ≡ 13) × (control' ≡ control) × (copy' ≡ copy) × (value ≡ 0))
      (ReaderWaited control message copy r control' copy' value)

pub record ReaderTakes (control line answers message answer copy : List ℕ) (event r : ℕ) (control' line' answers' answer' copy' values : List ℕ) : Type 0 where
  pub taken : Commanded
  pub hears : reading.Hears (reader_in control) line answers message answer copy (event_of event) taken line' answers' answer' copy'
  pub told : r ≡ reader_number taken.told taken.outcome
  pub values_are : values ≡ reader_values taken.told taken.answer taken.outcome (permanent_changed (reader_in control) taken.reader)
  pub kept : Kept reader_in reader_bytes taken.reader control control'

abbrev pub ReaderStays : ℕ → List ℕ → List ℕ → List ℕ → List ℕ → List ℕ → ℕ → List ℕ → List ℕ → List ℕ → List ℕ → List ℕ → List ℕ → Type 0
ReaderStays n control line answers answer copy r control' line' answers' answer' copy' values =
    (r ≡ n) × (control' ≡ control) × (line' ≡ line) × (answers' ≡ answers) × (answer' ≡ answer) × (copy' ≡ copy) × (values ≡ 0 ∷ 0 ∷ 0 ∷ 0 ∷ 0 ∷ 0 ∷ [])

pub record ReaderHears (control line answers message answer copy : List ℕ) (event r : ℕ) (control' line' answers' answer' copy' values : List ℕ) : Type 0 where
  pub asks :
      Asks (at_least reader_control_size control ∷ at_least reader_answer_size answer ∷ at_least packet_size copy ∷ [])
      (ReaderStays 13 control line answers answer copy r control' line' answers' answer' copy' values)
      (IfNamed (is_event event) (ReaderStays 0 control line answers answer copy r control' line' answers' answer' copy' values)
      (ReaderTakes control line answers message answer copy event r control' line' answers' answer' copy' values))

-- The present value of a parameter.
pub record ReaderShows (control : List ℕ) (number r value : ℕ) : Type 0 where
  pub shows : settings.Value (reader_in control).device.table number value
  pub told : r ≡ 0

pub record ReaderValue (control : List ℕ) (number r value : ℕ) : Type 0 where
  pub asks : Asks (at_least reader_control_size control ∷ []) ((r ≡ 13) × (value ≡ 0)) (ReaderShows control number r value)

-- Whether a parameter is locked.
pub record ReaderHolds (control : List ℕ) (number r value : ℕ) : Type 0 where
  pub held : Bool
  pub locked : settings.Locked (reader_in control).device.table number held
  pub value_is : value ≡ flag_byte held
  pub told : r ≡ 0

pub record ReaderLocked (control : List ℕ) (number r value : ℕ) : Type 0 where
  pub asks : Asks (at_least reader_control_size control ∷ []) ((r ≡ 13) × (value ≡ 0)) (ReaderHolds control number r value)

-- The saved set, written to a room.
pub record ReaderWrites (control room : List ℕ) (r : ℕ) (room' : List ℕ) (size : ℕ) : Type 0 where
  pub made : Result ℕ Refusal
  pub saves : saved.Saves (reader_in control).device.table room made room'
  pub told : r ≡ result_number made 101
  pub value : size ≡ size_of made

pub record ReaderSaves (control room : List ℕ) (r : ℕ) (room' : List ℕ) (size : ℕ) : Type 0 where
  pub asks : Asks (at_least reader_control_size control ∷ []) (Unwritten 13 room r room' size) (ReaderWrites control room r room' size)

-- A saved set, read into the reader. 12 comes before 13: a form that is none is told as that, also where the control value is too small.
pub record ReaderReads (control form : List ℕ) (r : ℕ) (control' : List ℕ) : Type 0 where
  pub loaded : Result Reader Refusal
  pub loads : reading.Loads (reader_in control) form loaded
  pub told : r ≡ result_number loaded 0
  pub kept : KeptUnless (is_err loaded) reader_in reader_bytes (reading.left_of (reader_in control) loaded) control control'

pub record ReaderLoads (control form : List ℕ) (r : ℕ) (control' : List ℕ) : Type 0 where
  pub asks : Asks (at_least reader_control_size control ∷ []) ((r ≡ settled_number (read_form edition1 form) 13) × (control' ≡ control)) (ReaderReads control form r control')

-- What is switched on.
pub record ReaderSwitches (control : List ℕ) (r : ℕ) (values : List ℕ) : Type 0 where
  pub asks :
      Asks (at_least reader_control_size control ∷ [])
      ((r ≡ 13) × (values ≡ 0 ∷ 0 ∷ 0 ∷ 0 ∷ []))
      ((r ≡ 0) × (values ≡ switch_values (reader_in control).device))
