-- What the sender's calls promise: the answer, the next state, the control value, every byte of buffer and room.
use Rattle.std.specs.Prelude.{ℕ, ◌+◌, ◌-◌, ◌*◌, ◌/◌, ◌≤◌, Bool, true, false, List, [], ◌∷◌, ◌≡◌, eqb, ltb, leb, length, take, drop}
use Rattle.words.specs.Lists.{pick, both, either, same_bytes, over}
use Rattle.packet.specs.Opcodes.{reader, decode_data}
use Rattle.packet.specs.Packet.{body_of, seal}
use Rattle.packet.specs.Sizes.{packet_size, message_size}
use Rattle.packet.specs.declared.Refusal.{Refusal}
use Rattle.packet.specs.declared.Refusal.TheVariants as refusal
use Rattle.sender.specs.Pieces.{piece_size, cut_size, next_size, pieces_from, bodies_of}
use Rattle.sender.specs.Sender.{SenderState, nothing_out, sending, waits, Sent, copy, delivered, failed, refused, start_step, resend_limit, sender_step, heed_of}
use Rattle.sender.specs.declared.Sender.{Sender}
use Rattle.sender.specs.declared.Heard.{Heard}
use Rattle.sender.specs.declared.Heard.TheVariants.{Ack, Nak, TimeOut, Nothing}
use Rattle.sender.specs.declared.Outcome.{Outcome}
use Rattle.sender.specs.declared.Outcome.TheVariants as outcome
use Rattle.sender.specs.declared.Sending.{Sending}

-- ---- the answer that is an enum

unfoldable pub name_of : List Sent → Outcome
name_of [] = outcome.Nothing
name_of (copy gap body ∷ xs) = outcome.Copy (length (seal body)) gap
name_of (delivered n ∷ xs) = outcome.Delivered n
name_of (failed n ∷ xs) = outcome.Failed n
name_of (refused r ∷ xs) = outcome.Refused r

-- The bytes of a copy, which go into the room.
unfoldable pub copy_of : List Sent → List ℕ
copy_of [] = []
copy_of (copy gap body ∷ xs) = seal body
copy_of (delivered n ∷ xs) = []
copy_of (failed n ∷ xs) = []
copy_of (refused r ∷ xs) = []

-- ---- what control value and message buffer stand for

abbrev pub idle_control : Bool → Sender
idle_control f =
    record { out = false; code = 0; length = 0; at = 0; size = 0; resends = 0; copies = 0; failed = f; delivered = false }

-- A piece of so many bytes, with so many left of the message where it starts.
unfoldable pub sized_of : ℕ → ℕ → Bool
sized_of left size = pick (leb left piece_size) (eqb size left) (both (leb cut_size size) (leb size piece_size))

-- The piece lies within the message buffer.
unfoldable pub placed_of : Sender → Bool
placed_of s = both (leb s.length message_size) (both (leb s.at s.length) (sized_of (s.length - s.at) s.size))

-- No more marked copies than the packets up to the present one can have had: each piece before it took at least 249 bytes.
unfoldable pub counted_of : Sender → Bool
counted_of s = both (leb s.resends resend_limit) (leb s.copies (s.at / cut_size * resend_limit + s.resends))

-- Any control value is taken. One that no run leaves is not out, and keeps no packet of the message before.
unfoldable pub made_of : Sender → Bool
made_of s = both (placed_of s) (pick s.out (counted_of s) (both s.delivered (leb (s.length - s.at) piece_size)))

unfoldable pub sound_of : Sender → Sender
sound_of s = pick (made_of s) s (idle_control s.failed)

-- The present piece, or with nothing out the last one of the message before; what is left of the message behind it; and the pieces of that.
unfoldable pub piece_of : Sender → List ℕ → List ℕ
piece_of s buffer = take s.size (drop s.at buffer)

unfoldable pub rest_of : Sender → List ℕ → List ℕ
rest_of s buffer = take (s.length - (s.at + s.size)) (drop (s.at + s.size) buffer)

unfoldable pub behind_of : Sender → List ℕ → List (List ℕ)
behind_of s buffer = pick (ltb (s.at + s.size) s.length) (pieces_from (piece_of s buffer) (rest_of s buffer)) []

unfoldable pub last_of : Sender → List ℕ → List ℕ
last_of s buffer = pick s.delivered (body_of decode_data reader 0 (s.code ∷ piece_of s buffer)) []

unfoldable pub out_of : Sender → List ℕ → SenderState
out_of s buffer =
    pick s.out (sending (bodies_of s.code (piece_of s buffer ∷ behind_of s buffer)) s.resends s.copies)
    (nothing_out s.failed (last_of s buffer))

unfoldable pub state_of : Sender → List ℕ → SenderState
state_of s buffer = out_of (sound_of s) buffer

-- ---- the control value afterwards

-- The message that is out, with this piece as its present one.
abbrev pub moved_to : Sender → ℕ → ℕ → ℕ → ℕ → Sender
moved_to s at size resends copies =
    record {
      out = true;
      code = s.code;
      length = s.length;
      at = at;
      size = size;
      resends = resends;
      copies = copies;
      failed = false;
      delivered = false;
    }

abbrev pub going_on : Sender → List ℕ → Sender
going_on s buffer = moved_to s (s.at + s.size) (next_size (piece_of s buffer) (rest_of s buffer)) 0 s.copies

abbrev pub resending : Sender → Sender
resending s = moved_to s s.at s.size (s.resends + 1) (s.copies + 1)

-- Behind a copy: on an ACK it was the next packet's, else the present one's.
unfoldable pub copied_by : Heard → Sender → List ℕ → Sender
copied_by Ack s buffer = going_on s buffer
copied_by (Nak cause) s buffer = resending s
copied_by TimeOut s buffer = resending s
copied_by Nothing s buffer = s

-- Behind a message that was delivered: its last piece still stands in the buffer.
abbrev pub delivered_control : Sender → Sender
delivered_control s =
    record {
      out = false;
      code = s.code;
      length = s.length;
      at = s.at;
      size = s.size;
      resends = 0;
      copies = 0;
      failed = false;
      delivered = true;
    }

unfoldable pub control_after : Sender → List ℕ → Heard → List Sent → Sender
control_after s buffer h [] = s
control_after s buffer h (copy gap body ∷ xs) = copied_by h s buffer
control_after s buffer h (delivered n ∷ xs) = delivered_control s
control_after s buffer h (failed n ∷ xs) = idle_control true
control_after s buffer h (refused r ∷ xs) = s

-- A message that was just begun.
abbrev pub begun_control : ℕ → List ℕ → Sender
begun_control code m =
    record {
      out = true;
      code = code;
      length = length m;
      at = 0;
      size = next_size [] m;
      resends = 0;
      copies = 0;
      failed = false;
      delivered = false;
    }

-- ---- promises

pub record Idle (f : Bool) (r : Sender) : Type 0 where
  pub is : r ≡ idle_control f

-- What is refused changes nothing.
abbrev pub refusing : Sender → Refusal → Sending
refusing s r = record { sender = s; outcome = outcome.Refused r }

-- Number 13 first, for room smaller than a packet; then what the definition says.
unfoldable pub started_of : Sender → List ℕ → List ℕ → ℕ → List ℕ → Sending
started_of s buffer room code m =
    pick (ltb (length room) packet_size) (refusing s refusal.Room)
    (pick (either (ltb message_size (length m)) (waits (state_of s buffer))) (refusing s refusal.Start)
    (record { sender = begun_control code m; outcome = name_of (start_step (state_of s buffer) code m).told }))

pub record Starts (s : Sender) (buffer room : List ℕ) (code : ℕ) (m : List ℕ) (r : Sending) (buffer' room' : List ℕ) : Type 0 where
  pub is : r ≡ started_of s buffer room code m
  pub next : state_of r.sender buffer' ≡ pick (ltb (length room) packet_size) (state_of s buffer) (start_step (state_of s buffer) code m).next
  pub buffer_is : buffer' ≡ over (pick (ltb (length room) packet_size) [] (pick (either (ltb message_size (length m)) (waits (state_of s buffer))) [] m)) buffer
  pub room_is : room' ≡ over (pick (ltb (length room) packet_size) [] (copy_of (start_step (state_of s buffer) code m).told)) room

pub record Hears (s : Sender) (buffer room : List ℕ) (h : Heard) (r : Sending) (room' : List ℕ) : Type 0 where
  pub is :
      r
      ≡ pick (ltb (length room) packet_size) (refusing s refusal.Room)
      (record { sender = control_after (sound_of s) buffer h (sender_step (state_of s buffer) h).told; outcome = name_of (sender_step (state_of s buffer) h).told })
  pub next : state_of r.sender buffer ≡ pick (ltb (length room) packet_size) (state_of s buffer) (sender_step (state_of s buffer) h).next
  pub room_is : room' ≡ over (pick (ltb (length room) packet_size) [] (copy_of (sender_step (state_of s buffer) h).told)) room

-- Whatever stands in the message buffer.
pub record Waits (s : Sender) (r : Bool) : Type 0 where
  pub is : (buffer : List ℕ) → r ≡ waits (state_of s buffer)

pub record Heeds (heeded opcode source status : ℕ) (carried : List ℕ) (r : Heard) : Type 0 where
  pub is : r ≡ heed_of heeded opcode source status carried

-- ---- the functions inside

pub record NextSize (before rest : List ℕ) (r : ℕ) : Type 0 where
  pub is : r ≡ next_size before rest
  pub sized : sized_of (length rest) r ≡ true

-- A control value that a run leaves; where nothing is out and nothing is kept, place and size are 0.
pub record Sounds (s r : Sender) : Type 0 where
  pub is : r ≡ sound_of s
  pub within : r.at + r.size ≤ message_size

pub record Sized (left size : ℕ) (r : Bool) : Type 0 where
  pub is : r ≡ sized_of left size

pub record Placed (s : Sender) (r : Bool) : Type 0 where
  pub is : r ≡ placed_of s

pub record Made (s : Sender) (r : Bool) : Type 0 where
  pub is : r ≡ made_of s

pub record Refuses (s : Sender) (refusal : Refusal) (r : Sending) : Type 0 where
  pub is : r ≡ refusing s refusal

pub record Moves (s : Sender) (at size resends copies : ℕ) (r : Sender) : Type 0 where
  pub is : r ≡ moved_to s at size resends copies

pub record Ends (s : Sender) (r : Sending) : Type 0 where
  pub is : r ≡ record { sender = delivered_control s; outcome = outcome.Delivered s.copies }

pub record Fails (s : Sender) (r : Sending) : Type 0 where
  pub is : r ≡ record { sender = idle_control true; outcome = outcome.Failed s.copies }

-- With nothing out: the message before failed, or it was delivered and its last packet is this message in one piece.
unfoldable pub due_of : Sender → List ℕ → ℕ → List ℕ → Bool
due_of s buffer code m =
    either s.failed (both s.delivered (both (eqb s.code code) (same_bytes (piece_of s buffer) m)))

pub record Due (s : Sender) (buffer : List ℕ) (code : ℕ) (m : List ℕ) (r : Bool) : Type 0 where
  pub is : r ≡ due_of s buffer code m

-- A message that is out, as a run leaves it.
pub record Out (s : Sender) : Type 0 where
  pub out : s.out ≡ true
  pub fits : s.length ≤ message_size
  pub inside : s.at + s.size ≤ s.length
  pub small : s.size ≤ piece_size
  pub sized : sized_of (s.length - s.at) s.size ≡ true
  pub tries : s.resends ≤ resend_limit
  pub few : s.copies ≤ s.at / cut_size * resend_limit + s.resends

-- The present packet, with or without its resend mark.
unfoldable pub present_of : Sender → List ℕ → ℕ → List ℕ
present_of s buffer mark =
    pick (ltb (s.at + s.size) s.length) (body_of decode_data reader (mark + 2) (s.code ∷ piece_of s buffer)) (body_of decode_data reader mark (s.code ∷ piece_of s buffer))

-- A packet in the room, and how many bytes it has.
pub record Fills (body room : List ℕ) (r : ℕ) (room' : List ℕ) : Type 0 where
  pub is : r ≡ length (seal body)
  pub room_is : room' ≡ over (seal body) room

pub record Presents (s : Sender) (buffer : List ℕ) (mark : ℕ) (room : List ℕ) (r : ℕ) (room' : List ℕ) : Type 0 where
  pub fills : Fills (present_of s buffer mark) room r room'

pub record Writes (s : Sender) (gap : Bool) (body room : List ℕ) (r : Sending) (room' : List ℕ) : Type 0 where
  pub is : r ≡ record { sender = s; outcome = outcome.Copy (length (seal body)) gap }
  pub room_is : room' ≡ over (seal body) room

pub record Copies (s : Sender) (buffer : List ℕ) (mark : ℕ) (gap : Bool) (room : List ℕ) (r : Sending) (room' : List ℕ) : Type 0 where
  pub writes : Writes s gap (present_of s buffer mark) room r room'

-- A message that may be sent is copied, and its first copy written.
pub record Begins (s : Sender) (buffer room : List ℕ) (code : ℕ) (m : List ℕ) (r : Sending) (buffer' room' : List ℕ) : Type 0 where
  pub buffer_is : buffer' ≡ over m buffer
  pub copies : Copies (begun_control code m) buffer' 0 (due_of s buffer code m) room r room'

-- One step with a message out.
pub record OutSteps (s : Sender) (buffer room : List ℕ) (h : Heard) (r : Sending) (room' : List ℕ) : Type 0 where
  pub is : r ≡ record { sender = control_after s buffer h (sender_step (out_of s buffer) h).told; outcome = name_of (sender_step (out_of s buffer) h).told }
  pub room_is : room' ≡ over (copy_of (sender_step (out_of s buffer) h).told) room
