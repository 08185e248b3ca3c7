-- Demand 1, calls that start a message or go on with one: a refused call gives the listed number and changes nothing at all.
use Rattle.std.specs.Prelude.{ℕ, List, ◌≡◌, ltb, length}
use Rattle.words.specs.Lists.{pick}
use Rattle.packet.specs.Sizes.{packet_size}
use Rattle.packet.specs.declared.Refusal.{Refusal}
use Rattle.packet.specs.declared.Refusal.TheVariants.{Start, Room}

-- Why a start is refused: 13 for a room smaller than a packet, else 11.
abbrev pub start_refusal : List ℕ → Refusal
start_refusal room = pick (ltb (length room) packet_size) Room Start

-- The control value (the sender's own, or that of the reader whose sender it is), the message buffer and the room are as they were.
pub record SenderRefuses {C : Type 0} (listed x : Refusal) (control control' : C) (buffer buffer' room room' : List ℕ) : Type 0 where
  pub number : x ≡ listed
  pub control_same : control' ≡ control
  pub buffer_same : buffer' ≡ buffer
  pub room_same : room' ≡ room
