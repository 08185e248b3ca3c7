-- What each call of `packet` promises: its answer, and every byte of the room it was lent.
use Rattle.std.specs.Prelude.{ℕ, ◌+◌, ◌%◌, ◌≤◌, Bool, List, [], ◌∷◌, ◌≡◌, length, take, drop, Result}
use Rattle.words.specs.Lists.{over}
use Rattle.packet.specs.declared.Refusal.{Refusal}
use Rattle.packet.specs.declared.Head.{Head}
use Rattle.packet.specs.declared.Reply.{Reply}
use Rattle.packet.specs.Packet.{body_of, sum_of, checksum_of, seal, data_in, check_of, status_allowed, source_allowed, fields_of, build_of, written, size_of, reply_data, reply_opcode, reply_body, unmarked, equal_unmarked, resent_equal, is_answer}
use Rattle.packet.specs.Refusals.{number_of, cause_of, nak_bytes, nak_of}
use Rattle.packet.specs.Sizes.{packet_size, answer_size}

pub record Number (refusal : Refusal) (r : ℕ) : Type 0 where
  pub is : r ≡ number_of refusal

pub record Cause (refusal : Refusal) (r : ℕ) : Type 0 where
  pub is : r ≡ cause_of refusal

pub record Sum (s : List ℕ) (r : ℕ) : Type 0 where
  pub is : r ≡ sum_of s
  pub most : r ≤ 65025

-- The checksum in two bytes.
pub record Complement (s : List ℕ) (r : ℕ) : Type 0 where
  pub is : r ≡ checksum_of s % 65536

pub record Check (s : List ℕ) (r : Result Head Refusal) : Type 0 where
  pub is : r ≡ check_of s

pub record DataPart (s r : List ℕ) : Type 0 where
  pub is : r ≡ data_in s

pub record Allowed (opcode status : ℕ) (r : Bool) : Type 0 where
  pub is : r ≡ status_allowed opcode status

pub record AllowedSource (source : ℕ) (r : Bool) : Type 0 where
  pub is : r ≡ source_allowed source

pub record Fields (opcode source status n : ℕ) (r : Result ℕ Refusal) : Type 0 where
  pub is : r ≡ fields_of opcode source status n

-- The header's four bytes, and the checksum behind a body of n bytes.
pub record Headed (room : List ℕ) (opcode source status n : ℕ) (room' : List ℕ) : Type 0 where
  pub is : room' ≡ over ((n + 4) ∷ opcode ∷ source ∷ status ∷ []) room

pub record Sealed (room : List ℕ) (n : ℕ) (room' : List ℕ) : Type 0 where
  pub is : room' ≡ over (seal (take n room)) room

pub record SizeOf (b : Result ℕ Refusal) (r : ℕ) : Type 0 where
  pub is : r ≡ size_of b

-- `build`: the data is lent beside the room.
pub record Build (room : List ℕ) (opcode source status : ℕ) (carried : List ℕ) (r : Result ℕ Refusal) (room' : List ℕ) : Type 0 where
  pub is : r ≡ build_of packet_size room opcode source status (length carried)
  pub room_is : room' ≡ over (written r (seal (body_of opcode source status carried))) room

-- The same where the room is known to hold the packet.
pub record Put (room : List ℕ) (opcode source status : ℕ) (carried : List ℕ) (r : Result ℕ Refusal) (room' : List ℕ) : Type 0 where
  pub is : r ≡ fields_of opcode source status (length carried)
  pub room_is : room' ≡ over (written r (seal (body_of opcode source status carried))) room

-- `fill`: the data, n bytes, already stands in the room from the fifth byte on.
pub record Fill (room : List ℕ) (opcode source status n : ℕ) (r : Result ℕ Refusal) (room' : List ℕ) : Type 0 where
  pub is : r ≡ build_of (n + 6) room opcode source status n
  pub room_is : room' ≡ over (written r (seal (body_of opcode source status (take n (drop 4 room))))) room

-- `answer`: ACK or NAK.
pub record Answer (room : List ℕ) (source : ℕ) (reply : Reply) (r : Result ℕ Refusal) (room' : List ℕ) : Type 0 where
  pub is : r ≡ build_of answer_size room (reply_opcode reply) source 0 (length (reply_data reply))
  pub room_is : room' ≡ over (written r (seal (reply_body source reply))) room

-- `nak`: the NAK that answers a refusal, or no bytes where none does.
pub record Naks (room : List ℕ) (source : ℕ) (refusal : Refusal) (r : Result ℕ Refusal) (room' : List ℕ) : Type 0 where
  pub is : r ≡ nak_of room source refusal
  pub room_is : room' ≡ over (written r (nak_bytes source refusal)) room

pub record Equal (a b : List ℕ) (r : Bool) : Type 0 where
  pub is : r ≡ equal_unmarked a b

pub record Resent (last body : List ℕ) (r : Bool) : Type 0 where
  pub is : r ≡ resent_equal (unmarked last) body

pub record IsAnswer (opcode : ℕ) (r : Bool) : Type 0 where
  pub is : r ≡ is_answer opcode
