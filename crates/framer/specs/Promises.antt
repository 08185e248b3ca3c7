-- What the framer's call promises: what it found, its control value, and every byte of the line buffer.
use Rattle.std.specs.Prelude.{ℕ, ◌<◌, true, false, List, [], ◌∷◌, ◌++◌, ◌≡◌, ltb, eqb, length, take}
use Rattle.words.specs.Lists.{pick, over}
use Rattle.packet.specs.Packet.{head_in}
use Rattle.packet.specs.declared.Refusal.TheVariants.{Cut, Room}
use Rattle.packet.specs.declared.Refusal.{Refusal}
use Rattle.packet.specs.Refusals.{number_of}
use Rattle.packet.specs.Sizes.{packet_size}
use Rattle.framer.specs.Framer.{Line, hearing, deaf, Heard, packet, refused, framer_step}
use Rattle.framer.specs.declared.Event.{Event}
use Rattle.framer.specs.declared.Event.TheVariants.{Byte, CharacterGap, MessageGap}
use Rattle.framer.specs.declared.Framer.{Framer}
use Rattle.framer.specs.declared.Found.{Found}
use Rattle.framer.specs.declared.Found.TheVariants.{Nothing, Packet, Refused}
use Rattle.framer.specs.declared.Framed.{Framed}

-- Any control value is taken: a count that the line buffer cannot have is 0.
unfoldable pub begun_of : Framer → ℕ
begun_of f = pick (ltb f.count packet_size) f.count 0

-- What a control value and a line buffer stand for.
unfoldable pub line_of : Framer → List ℕ → Line
line_of f line = pick f.deaf deaf (hearing (take (begun_of f) line))

-- The control value of a state.
abbrev pub control_of : Line → Framer
control_of (hearing got) = record { count = length got; deaf = false }
control_of deaf = record { count = 0; deaf = true }

-- What is told of a step: nothing, a packet by its head, or a refusal.
unfoldable pub found_of : List Heard → Found
found_of [] = Nothing
found_of (packet body ∷ rest) = Packet (head_in body)
found_of (refused r ∷ rest) = Refused r

-- The line buffer afterwards: a byte that is heard stands behind those before it.
unfoldable pub stored_of : Event → Line → List ℕ → List ℕ
stored_of (Byte b) (hearing got) line = over (got ++ (b ∷ [])) line
stored_of (Byte b) deaf line = line
stored_of CharacterGap l line = line
stored_of MessageGap l line = line

-- Number 13 first, for a line buffer that is too short for a packet: the event is then not taken.
unfoldable pub framed_of : Framer → List ℕ → Event → Framed
framed_of f line e =
    pick (ltb (length line) packet_size) (record { framer = f; found = Refused Room })
    (record { framer = control_of (framer_step (line_of f line) e).next; found = found_of (framer_step (line_of f line) e).told })

unfoldable pub line_after : Framer → List ℕ → Event → List ℕ
line_after f line e = pick (ltb (length line) packet_size) line (stored_of e (line_of f line) line)

pub record Frames (f : Framer) (line : List ℕ) (e : Event) (r : Framed) (line' : List ℕ) : Type 0 where
  pub is : r ≡ framed_of f line e
  pub line_is : line' ≡ line_after f line e

pub record Idle (r : Framer) : Type 0 where
  pub is : r ≡ control_of (hearing [])

pub record Begun (f : Framer) (r : ℕ) : Type 0 where
  pub is : r ≡ begun_of f
  pub most : r < packet_size

-- A length below the limit, or 0.
pub record Below (n limit r : ℕ) : Type 0 where
  pub is : r ≡ pick (ltb n limit) n 0

pub record Deaf (r : Framer) : Type 0 where
  pub is : r ≡ control_of deaf

-- Nothing is begun any more, and this was found.
pub record Ended (found : Found) (r : Framed) : Type 0 where
  pub is : r ≡ record { framer = control_of (hearing []); found = found }

-- A gap needs no byte of the line buffer.
pub record Gap (f : Framer) (r : Framed) : Type 0 where
  pub is : r ≡ record { framer = control_of (hearing []); found = pick f.deaf Nothing (pick (eqb (begun_of f) 0) Nothing (Refused Cut)) }

pub record Unfinished (refusal : Refusal) (count : ℕ) (r : Framed) : Type 0 where
  pub is :
      r
      ≡ pick (eqb (number_of refusal) 3) (record { framer = record { count = count; deaf = false }; found = Nothing })
      (record { framer = control_of deaf; found = Refused refusal })
