-- §5, the framer: one event at a time.
use Rattle.std.specs.Prelude.{ℕ, Bool, true, false, List, [], ◌∷◌, ◌++◌, eqb, Result, Ok, Err}
use Rattle.words.specs.Lists.{pick}
use Rattle.words.specs.Machine.{Done}
use Rattle.packet.specs.Packet.{body_in, check_of}
use Rattle.packet.specs.Refusals.{number_of}
use Rattle.packet.specs.declared.Head.{Head}
use Rattle.packet.specs.declared.Refusal.{Refusal}
use Rattle.packet.specs.declared.Refusal.TheVariants.{Cut}
use Rattle.framer.specs.declared.Event.{Event}
use Rattle.framer.specs.declared.Event.TheVariants.{Byte, CharacterGap, MessageGap}

-- The bytes of the packet begun, none where nothing is begun; or deaf until the next character gap.
pub data Line : Type 0 where
  hearing : List ℕ → Line
  deaf : Line

-- What comes out of a framer: a packet, as its body, or a refusal.
pub data Heard : Type 0 where
  packet : List ℕ → Heard
  refused : Refusal → Heard

-- Whether nothing came out.
unfoldable pub silent : List Heard → Bool
silent [] = true
silent (x ∷ xs) = false

abbrev pub quiet : Line → Done Line Heard
quiet line = record { next = line; told = [] }

abbrev pub says : Line → Heard → Done Line Heard
says line heard = record { next = line; told = heard ∷ [] }

-- The framer is the packet check on the bytes so far: too few, so it goes on; a packet; or a refusal, after which it is deaf.
unfoldable pub judged : List ℕ → Result Head Refusal → Done Line Heard
judged s (Ok head) = says (hearing []) (packet (body_in s))
judged s (Err r) = pick (eqb (number_of r) 3) (quiet (hearing s)) (says deaf (refused r))

-- A gap with a packet begun and not ended is refusal 3; one with nothing begun gives nothing.
unfoldable pub at_gap : Line → Done Line Heard
at_gap (hearing []) = quiet (hearing [])
at_gap (hearing (x ∷ xs)) = says (hearing []) (refused Cut)
at_gap deaf = quiet (hearing [])

unfoldable pub at_byte : Line → ℕ → Done Line Heard
at_byte (hearing got) b = judged (got ++ (b ∷ [])) (check_of (got ++ (b ∷ [])))
at_byte deaf b = quiet deaf

-- One event. A message gap is also a character gap.
unfoldable pub framer_step : Line → Event → Done Line Heard
framer_step line (Byte b) = at_byte line b
framer_step line CharacterGap = at_gap line
framer_step line MessageGap = at_gap line
