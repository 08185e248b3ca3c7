-- Events and answers as numbers, for callers in other languages. What is told is a number: 0 for nothing, a refusal's own number, or
-- one from 100 on. What is told with it are values, 0 where a case has none.
use Rattle.std.specs.Prelude.{ℕ, Bool, true, false, List, [], ◌∷◌, ◌++◌, ◌≡◌, Option, Some, None, Result, Ok, Err, eqb, leb, ltb}
use Rattle.words.specs.Lists.{pick}
use Rattle.packet.specs.Refusals.{number_of}
use Rattle.packet.specs.declared.Refusal.{Refusal}
use Rattle.packet.specs.declared.Head.{Head}
use Rattle.packet.specs.declared.Reply.{Reply}
use Rattle.packet.specs.declared.Reply.TheVariants as reply
use Rattle.framer.specs.declared.Event.{Event}
use Rattle.framer.specs.declared.Event.TheVariants.{Byte, CharacterGap, MessageGap}
use Rattle.framer.specs.declared.Found.{Found}
use Rattle.framer.specs.declared.Found.TheVariants as found
use Rattle.hub.specs.declared.Told.{Told}
use Rattle.hub.specs.declared.Told.TheVariants as told
use Rattle.commands.specs.declared.Beep.{Beep}
use Rattle.reader.specs.declared.Told.{Told as Commanded}
use Rattle.reader.specs.declared.Told.TheVariants as commanded
use Rattle.table.specs.Table.{Outcome as Settled, done, refused}
use Rattle.sender.specs.declared.Heard.{Heard}
use Rattle.sender.specs.declared.Heard.TheVariants as heard
use Rattle.sender.specs.declared.Outcome.{Outcome}
use Rattle.sender.specs.declared.Outcome.TheVariants as outcome
use Rattle.motikhund.specs.Control.{flag_byte}

-- ---- what goes in

-- An event: 0 to 255 that byte, 256 a character gap, 257 a message gap; no number above it is one.
unfoldable pub is_event : ℕ → Bool
is_event n = leb n 257

unfoldable pub event_of : ℕ → Event
event_of n = pick (ltb n 256) (Byte n) (pick (eqb n 256) CharacterGap MessageGap)

-- What a sender hears: 0 to 255 a NAK with that cause, 256 an ACK, 257 a time-out, any number above it nothing.
unfoldable pub heard_of : ℕ → Heard
heard_of n = pick (ltb n 256) (heard.Nak n) (pick (eqb n 256) heard.Ack (pick (eqb n 257) heard.TimeOut heard.Nothing))

abbrev pub heard_number : Heard → ℕ
heard_number heard.Ack = 256
heard_number (heard.Nak cause) = cause
heard_number heard.TimeOut = 257
heard_number heard.Nothing = 258

-- A reply: 0 to 255 a NAK with that cause, 256 an ACK; no number above it is one.
unfoldable pub is_reply : ℕ → Bool
is_reply n = leb n 256

unfoldable pub reply_of : ℕ → Reply
reply_of n = pick (ltb n 256) (reply.Nak n) reply.Ack

-- ---- what comes out

-- A packet's head: length, opcode, source, status.
abbrev pub head_values : Head → List ℕ
head_values h = h.length ∷ h.opcode ∷ h.source ∷ h.status ∷ []

abbrev pub no_head : List ℕ
no_head = 0 ∷ 0 ∷ 0 ∷ 0 ∷ []

-- A call that may be refused: what it told where it was not, or the refusal's number.
abbrev pub result_number : {A : Type 0} → Result A Refusal → ℕ → ℕ
result_number (Ok x) n = n
result_number (Err r) n = number_of r

-- Whether it is a refusal.
abbrev pub is_err : {A : Type 0} → Result A Refusal → Bool
is_err (Ok x) = false
is_err (Err r) = true

abbrev pub checked_values : Result Head Refusal → List ℕ
checked_values (Ok head) = head_values head
checked_values (Err r) = no_head

abbrev pub found_number : Found → ℕ
found_number found.Nothing = 0
found_number (found.Packet head) = 100
found_number (found.Refused r) = number_of r

abbrev pub found_values : Found → List ℕ
found_values found.Nothing = no_head
found_values (found.Packet head) = head_values head
found_values (found.Refused r) = no_head

-- The hub: how many bytes stand in the answer room; of a message also its code type and how many bytes stand in the message room.
abbrev pub hub_number : Told → ℕ
hub_number told.Nothing = 0
hub_number told.Added = 110
hub_number told.Repeated = 111
hub_number (told.Message code count) = 112
hub_number (told.Refused r) = number_of r

abbrev pub hub_values : Told → ℕ → List ℕ
hub_values told.Nothing answer = answer ∷ 0 ∷ 0 ∷ []
hub_values told.Added answer = answer ∷ 0 ∷ 0 ∷ []
hub_values told.Repeated answer = answer ∷ 0 ∷ 0 ∷ []
hub_values (told.Message code count) answer = answer ∷ code ∷ count ∷ []
hub_values (told.Refused r) answer = answer ∷ 0 ∷ 0 ∷ []

-- The same of a block, and behind them how many bytes were taken.
abbrev pub block_values : Told → ℕ → ℕ → List ℕ
block_values t answer taken = hub_values t answer ++ (taken ∷ [])

-- The sender: how many bytes of a copy stand in the room, or the marked copies of the message that has ended.
abbrev pub outcome_number : Outcome → ℕ
outcome_number outcome.Nothing = 0
outcome_number (outcome.Copy size gap) = 120
outcome_number (outcome.Delivered copies) = 121
outcome_number (outcome.Failed copies) = 122
outcome_number (outcome.Refused r) = number_of r

abbrev pub outcome_value : Outcome → ℕ
outcome_value outcome.Nothing = 0
outcome_value (outcome.Copy size gap) = size
outcome_value (outcome.Delivered copies) = copies
outcome_value (outcome.Failed copies) = copies
outcome_value (outcome.Refused r) = 0

-- Whether a message gap is due before it.
abbrev pub outcome_gap : Outcome → Bool
outcome_gap outcome.Nothing = false
outcome_gap (outcome.Copy size gap) = gap
outcome_gap (outcome.Delivered copies) = false
outcome_gap (outcome.Failed copies) = false
outcome_gap (outcome.Refused r) = false

-- Only a start tells of a gap.
abbrev pub start_values : Outcome → List ℕ
start_values sent = outcome_value sent ∷ flag_byte (outcome_gap sent) ∷ []

-- Whether it is a refusal.
abbrev pub is_refused : Outcome → Bool
is_refused outcome.Nothing = false
is_refused (outcome.Copy size gap) = false
is_refused (outcome.Delivered copies) = false
is_refused (outcome.Failed copies) = false
is_refused (outcome.Refused r) = true

-- Whether a message is out.
abbrev pub waits_number : Bool → ℕ
waits_number true = 123
waits_number false = 0

-- The reader: how many bytes stand in the answer room; the row of §13 that is reported, duration, pitch and number of beeps, of
-- which there are none where nothing sounds; then the value of what its sender brought; then whether a permanent value changed. One number
-- tells of both: an event that brings a command is none for the sender.
abbrev pub reader_number : Commanded → Outcome → ℕ
reader_number commanded.Nothing sent = outcome_number sent
reader_number (commanded.Refused r) sent = number_of r
reader_number (commanded.Acted beep) sent = 130
reader_number commanded.Repeated sent = 111

abbrev pub row_of : Option Beep → List ℕ
row_of None = 0 ∷ 0 ∷ 0 ∷ []
row_of (Some beep) = beep.duration ∷ beep.pitch ∷ beep.count ∷ []

abbrev pub reader_row : Commanded → List ℕ
reader_row commanded.Nothing = 0 ∷ 0 ∷ 0 ∷ []
reader_row (commanded.Refused r) = 0 ∷ 0 ∷ 0 ∷ []
reader_row (commanded.Acted beep) = row_of beep
reader_row commanded.Repeated = 0 ∷ 0 ∷ 0 ∷ []

unfoldable pub reader_values : Commanded → ℕ → Outcome → Bool → List ℕ
reader_values told answer sent changed = answer ∷ (reader_row told ++ (outcome_value sent ∷ flag_byte changed ∷ []))

-- A saved set that was read, or not: what is told where it was taken, or its refusal.
abbrev pub settled_number : Settled → ℕ → ℕ
settled_number (done v) taken = taken
settled_number (refused r) taken = number_of r

-- ---- promises

pub record EventOf (n : ℕ) (r : Event) : Type 0 where
  pub is : r ≡ event_of n

pub record HeardOf (n : ℕ) (r : Heard) : Type 0 where
  pub is : r ≡ heard_of n

pub record HeardNumber (h : Heard) (r : ℕ) : Type 0 where
  pub is : r ≡ heard_number h

pub record ReplyOf (n : ℕ) (r : Reply) : Type 0 where
  pub is : r ≡ reply_of n

pub record RefusalNumber (why : Refusal) (r : ℕ) : Type 0 where
  pub is : r ≡ number_of why

pub record HeadValues (h : Head) (values : List ℕ) : Type 0 where
  pub is : values ≡ head_values h

pub record ResultNumber {A : Type 0} (made : Result A Refusal) (n r : ℕ) : Type 0 where
  pub is : r ≡ result_number made n

pub record CheckedValues (c : Result Head Refusal) (values : List ℕ) : Type 0 where
  pub is : values ≡ checked_values c

pub record FoundNumber (f : Found) (r : ℕ) : Type 0 where
  pub is : r ≡ found_number f

pub record FoundValues (f : Found) (values : List ℕ) : Type 0 where
  pub is : values ≡ found_values f

pub record HubNumber (t : Told) (r : ℕ) : Type 0 where
  pub is : r ≡ hub_number t

pub record HubValues (t : Told) (answer : ℕ) (values : List ℕ) : Type 0 where
  pub is : values ≡ hub_values t answer

pub record OutcomeNumber (o : Outcome) (r : ℕ) : Type 0 where
  pub is : r ≡ outcome_number o

pub record OutcomeValue (o : Outcome) (r : ℕ) : Type 0 where
  pub is : r ≡ outcome_value o

pub record OutcomeGap (o : Outcome) (r : Bool) : Type 0 where
  pub is : r ≡ outcome_gap o

pub record StartValues (o : Outcome) (values : List ℕ) : Type 0 where
  pub is : values ≡ start_values o

pub record OutcomeRefused (o : Outcome) (r : Bool) : Type 0 where
  pub is : r ≡ is_refused o

pub record WaitsNumber (out : Bool) (r : ℕ) : Type 0 where
  pub is : r ≡ waits_number out

pub record ReaderNumber (t : Commanded) (sent : Outcome) (r : ℕ) : Type 0 where
  pub is : r ≡ reader_number t sent

pub record ReaderRow (t : Commanded) (row : List ℕ) : Type 0 where
  pub is : row ≡ reader_row t

pub record ReaderValues (t : Commanded) (answer : ℕ) (o : Outcome) (changed : Bool) (values : List ℕ) : Type 0 where
  pub is : values ≡ reader_values t answer o changed
