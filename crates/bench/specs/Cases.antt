-- §17, the ten cases, as one statement over the definitions.
use Rattle.std.specs.Prelude.{ℕ, ◌≤◌, List, [], ◌∷◌, ◌++◌, map, ◌≡◌, length, get_or, replicate}
use Rattle.words.specs.Machine.{through}
use Rattle.packet.specs.Opcodes.{host, reader}
use Rattle.packet.specs.Packet.{seal, reply_body}
use Rattle.packet.specs.Refusals.{number_of}
use Rattle.packet.specs.declared.Refusal.TheVariants.{Start}
use Rattle.packet.specs.declared.Reply.TheVariants.{Ack, Nak}
use Rattle.framer.specs.declared.Event.{Event}
use Rattle.framer.specs.declared.Event.TheVariants.{Byte, CharacterGap}
use Rattle.hub.specs.Joiner as joiner
use Rattle.hub.specs.Hub as hub
use Rattle.sender.specs.Pieces.{pieces_of, packets_of, Uncut}
use Rattle.sender.specs.Sender as sender
use Rattle.table.specs.Table.{no_locks, defaults}
use Rattle.commands.specs.Commands.{DeviceState, fresh}
use Rattle.reader.specs.Reader.{Output, switched, answered, switched_on, reader_step}

-- Bytes on a line, and the gap after them.
abbrev pub line : List ℕ → List Event
line bytes = map Byte bytes ++ (CharacterGap ∷ [])

abbrev pub trigger_set : List ℕ
trigger_set = 0x07 ∷ 0xC6 ∷ 0x04 ∷ 0x00 ∷ 0xFF ∷ 0x8A ∷ 0x08 ∷ 0xFD ∷ 0x9E ∷ []

abbrev pub trigger_asked : List ℕ
trigger_asked = 0x05 ∷ 0xC7 ∷ 0x04 ∷ 0x00 ∷ 0x8A ∷ 0xFE ∷ 0xA6 ∷ []

abbrev pub trigger_told : List ℕ
trigger_told = 0x07 ∷ 0xC6 ∷ 0x00 ∷ 0x00 ∷ 0xFF ∷ 0x8A ∷ 0x08 ∷ 0xFD ∷ 0xA2 ∷ []

abbrev pub one_piece : List ℕ
one_piece = 0x06 ∷ 0xF3 ∷ 0x00 ∷ 0x00 ∷ 0x1B ∷ 0x38 ∷ 0xFE ∷ 0xB4 ∷ []

abbrev pub empty_message : List ℕ
empty_message = 0x05 ∷ 0xF3 ∷ 0x00 ∷ 0x00 ∷ 0x1B ∷ 0xFE ∷ 0xED ∷ []

-- What is told by a reader with the house defaults, just switched on, and the device that it shows after a command.
unfoldable pub reader_tells : List Event → List Output
reader_tells es = (through reader_step (switched_on defaults) es).told

abbrev pub with_trigger : DeviceState
with_trigger =
    fresh (record { present = 0 ∷ 10 ∷ 8 ∷ 20 ∷ 6 ∷ 4 ∷ 1 ∷ 0 ∷ 1 ∷ []; permanent = 0 ∷ 10 ∷ 0 ∷ 20 ∷ 6 ∷ 4 ∷ 1 ∷ 0 ∷ 1 ∷ []; locked = no_locks })

pub record TenCases : Type 0 where
  -- 1 to 4: the answers of hub and reader.
  pub hub_ack : seal (reply_body host Ack) ≡ 0x04 ∷ 0xD0 ∷ 0x04 ∷ 0x00 ∷ 0xFF ∷ 0x28 ∷ []
  pub reader_ack : seal (reply_body reader Ack) ≡ 0x04 ∷ 0xD0 ∷ 0x00 ∷ 0x00 ∷ 0xFF ∷ 0x2C ∷ []
  pub hub_nak : seal (reply_body host (Nak 1)) ≡ 0x05 ∷ 0xD1 ∷ 0x04 ∷ 0x00 ∷ 0x01 ∷ 0xFF ∷ 0x25 ∷ []
  pub reader_nak : seal (reply_body reader (Nak 6)) ≡ 0x05 ∷ 0xD1 ∷ 0x00 ∷ 0x00 ∷ 0x06 ∷ 0xFF ∷ 0x24 ∷ []
  -- 5 and 6: one piece and the empty message, as the sender writes them, and what the hub hands out.
  pub one_piece_lem : map seal (packets_of 0x1B (0x38 ∷ [])) ≡ one_piece ∷ []
  pub one_piece_joined : (through hub.hub_step hub.switched_on (line one_piece)).told ≡ joiner.acknowledged (joiner.handed 0x1B (0x38 ∷ []))
  pub empty_message_lem : map seal (packets_of 0x1B []) ≡ empty_message ∷ []
  pub empty_message_joined : (through hub.hub_step hub.switched_on (line empty_message)).told ≡ joiner.acknowledged (joiner.handed 0x1B [])
  -- 7 and 8: the trigger set, accepted, and then asked for.
  pub trigger_set_lem : reader_tells (line trigger_set) ≡ switched with_trigger ∷ answered (seal (reply_body reader Ack)) ∷ []
  pub trigger_asked_lem :
      reader_tells (line trigger_set ++ line trigger_asked)
      ≡ switched with_trigger ∷ answered (seal (reply_body reader Ack)) ∷ switched with_trigger ∷ answered trigger_told ∷ []
  -- 9: 250 bytes are one piece; 251 are two, the last of 1. No cut can fall there.
  pub brim : (m : List ℕ) → length m ≡ 250 → map length (pieces_of m) ≡ 250 ∷ []
  pub over_brim : (m : List ℕ) → length m ≡ 251 → map length (pieces_of m) ≡ 250 ∷ 1 ∷ []
  -- 10: 4,096 bytes are 17 pieces, the last of 96 where no cut falls, and of 96 to 104 in any case; 4,097 are refused by number 11, whatever the sender
  -- does.
  pub longest : (m : List ℕ) → length m ≡ 4096 → Uncut m → map length (pieces_of m) ≡ replicate 16 250 ++ (96 ∷ [])
  pub longest_number : (m : List ℕ) → length m ≡ 4096 → length (pieces_of m) ≡ 17
  pub longest_least : (m : List ℕ) → length m ≡ 4096 → 96 ≤ length (get_or (pieces_of m) 16 [])
  pub longest_most : (m : List ℕ) → length m ≡ 4096 → length (get_or (pieces_of m) 16 []) ≤ 104
  pub too_long_lem : (s : sender.SenderState) (code : ℕ) (m : List ℕ) → length m ≡ 4097 → sender.start_step s code m ≡ record { next = s; told = sender.refused Start ∷ [] }
  pub too_long_number : number_of Start ≡ 11
  -- And the case that shows a cut: 750 equal bytes.
  pub cut : map length (pieces_of (replicate 750 0x41)) ≡ 250 ∷ 249 ∷ 250 ∷ 1 ∷ []
