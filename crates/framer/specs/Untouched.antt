-- Demand 1 at the line buffer: what an event that brings no packet leaves of it, byte for byte.
use Rattle.std.specs.Prelude.{ℕ, ◌+◌, ◌<◌, not, List, ◌≡◌, set}
use Rattle.packet.specs.Sizes.{packet_size}
use Rattle.framer.specs.Halves.{place_of, half_of}
use Rattle.framer.specs.declared.Event.{Event}
use Rattle.framer.specs.declared.Event.TheVariants.{Byte}
use Rattle.framer.specs.declared.Halves.{Halves}

-- As it was; or as it was but for the byte that came, at one of the places of a packet from `start` on.
pub data AtMostTheByte (start : ℕ) (line line' : List ℕ) : Event → Type 0 where
  as_it_was : {e : Event} → line' ≡ line → AtMostTheByte start line line' e
  one_byte : {b : ℕ} (at : ℕ) → at < packet_size → line' ≡ set line (start + at) b → AtMostTheByte start line line' (Byte b)

-- The half with the last accepted packet is as it was, and the half that receives has at most the byte that came.
pub record LineKept (h : Halves) (e : Event) (line line' : List ℕ) : Type 0 where
  pub last_packet : half_of (not h.second) line' ≡ half_of (not h.second) line
  pub receiving : AtMostTheByte (place_of h.second) line line' e
