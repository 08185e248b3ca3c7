-- Runs of the bench and of the hub that are computed whole.
use Rattle.std.specs.Prelude.{ℕ, Bool, length, replicate}
use mathlib.Core.List.{List, [], ◌∷◌, ◌++◌, map, flat_map}
use Rattle.words.specs.Machine.{through}
use Rattle.packet.specs.Opcodes.{reader, decode_data}
use Rattle.packet.specs.Packet.{body_of, seal, marked}
use Rattle.packet.specs.declared.Refusal.TheVariants.{Barred}
use Rattle.framer.specs.declared.Event.{Event}
use Rattle.framer.specs.declared.Event.TheVariants.{MessageGap}
use Rattle.hub.specs.Joiner as joiner
use Rattle.hub.specs.Hub as hub
use Rattle.sender.specs.Pieces.{bodies_of, packets_of}
use Rattle.table.specs.Table.{defaults}
use Rattle.reader.specs.Reader as whole-end
use Rattle.bench.specs.Bench.{whole, lost, spoiled, gap_after, Tried, Ending, Begun, Message, Bench, handing, start, attempt, Move, played, bench}

-- A bench with a hub and a reader just switched on.
unfoldable pub runs : List Move → Bench
runs moves = played (bench hub.switched_on (whole-end.switched_on defaults)) moves

-- What became of each message: its ending, and how many copies and tries each of its packets had, the latest first.
pub record Fared : Type 0 where
  pub ending : Ending
  pub copies : List ℕ
  pub tries : List ℕ

unfoldable pub fared_one : Begun → Fared
fared_one m =
    record {
      ending = m.ending;
      copies = map (λ (p : Tried). length p.copies) m.packets;
      tries = map (λ (p : Tried). length p.tries) m.packets;
    }

unfoldable pub fared : Bench → List Fared
fared b = map fared_one b.sheet.log

-- The bytes of every copy that was written, the latest first.
unfoldable pub all_copies : Bench → List (List ℕ)
all_copies b = flat_map (λ (m : Begun). flat_map (λ (p : Tried). p.copies) m.packets) b.sheet.log

abbrev pub arrives_whole : Move
arrives_whole = attempt (record { going = whole; coming = whole })

abbrev pub copy_lost : Move
copy_lost = attempt (record { going = lost; coming = whole })

abbrev pub answer_lost : Move
answer_lost = attempt (record { going = whole; coming = lost })

-- One byte of the copy cut off; one bit of the answer's checksum turned.
abbrev pub copy_spoiled : Move
copy_spoiled = attempt (record { going = spoiled (0x06 ∷ 0xF3 ∷ 0x00 ∷ 0x00 ∷ 0x1B ∷ 0x38 ∷ 0xFE ∷ []); coming = whole })

abbrev pub answer_spoiled : Move
answer_spoiled = attempt (record { going = whole; coming = spoiled (0x04 ∷ 0xD0 ∷ 0x04 ∷ 0x00 ∷ 0xFF ∷ 0x29 ∷ []) })

-- ---- sample 8

-- A card of 251 characters that ends in sample number 8.
abbrev pub card : List ℕ
card = replicate 250 0x41 ++ (0x38 ∷ [])

-- The last packet holds that one 8. Its ACK is lost, and the packet comes again.
abbrev pub sample8 : List Move
sample8 = start 0x1B card ∷ arrives_whole ∷ answer_lost ∷ arrives_whole ∷ []

-- It must be handed out once, with its one 8.
abbrev pub sample8_handed : List Message
sample8_handed = record { code = 0x1B; bytes = card } ∷ []

-- What the reader writes, the latest first: the 8 with the resend mark, the 8, and the 250 characters before it.
abbrev pub sample8_copies : List (List ℕ)
sample8_copies =
    (0x06 ∷ 0xF3 ∷ 0x00 ∷ 0x01 ∷ 0x1B ∷ 0x38 ∷ 0xFE ∷ 0xB3 ∷ [])
    ∷ (0x06 ∷ 0xF3 ∷ 0x00 ∷ 0x00 ∷ 0x1B ∷ 0x38 ∷ 0xFE ∷ 0xB4 ∷ [])
    ∷ ((0xFF ∷ 0xF3 ∷ 0x00 ∷ 0x02 ∷ 0x1B ∷ replicate 250 0x41) ++ (0xBE ∷ 0x77 ∷ []))
    ∷ []

-- ---- every kind of fate

abbrev pub every_fate : List Move
every_fate =
    start 0x1B (0x38 ∷ []) ∷ copy_lost ∷ copy_spoiled ∷ arrives_whole
    ∷ start 0x1B (0x39 ∷ []) ∷ answer_lost ∷ answer_spoiled ∷ copy_spoiled
    ∷ start 0x1B (0x39 ∷ []) ∷ answer_spoiled ∷ arrives_whole
    ∷ start 0x1B (0x37 ∷ []) ∷ copy_lost
    ∷ []

-- ---- two equal cards

-- The same card twice, and the first copy of the second is lost: its marked copy would look like a resend of the first.
abbrev pub equal_cards : List Move
equal_cards = start 0x1B (0x38 ∷ []) ∷ arrives_whole ∷ start 0x1B (0x38 ∷ []) ∷ copy_lost ∷ arrives_whole ∷ []

-- The first card's last packet is the second card.
abbrev pub equal_end : List Move
equal_end = start 0x1B card ∷ arrives_whole ∷ arrives_whole ∷ start 0x1B (0x38 ∷ []) ∷ copy_lost ∷ arrives_whole ∷ []

-- Before which messages a message gap came, the latest first.
unfoldable pub gaps : Bench → List Bool
gaps b = map (λ (m : Begun). m.gap) b.sheet.log

-- ---- two equal pieces

-- 501 equal characters, and the first copy of the second piece is lost.
abbrev pub equal_letters : List ℕ
equal_letters = replicate 501 0x41

abbrev pub equal_pieces : List Move
equal_pieces = start 0x1B equal_letters ∷ arrives_whole ∷ copy_lost ∷ arrives_whole ∷ arrives_whole ∷ []

-- ---- that both rules are needed

-- What a hub hands out behind these events, the latest first.
unfoldable pub hub_hands : List Event → List Message
hub_hands es = handing (through hub.hub_step hub.switched_on es).told []

-- These packets, and the first copy of the second one is lost; with what comes before the second.
unfoldable pub second_lost : List Event → List (List ℕ) → List Event
second_lost before [] = []
second_lost before (p ∷ []) = gap_after (seal p)
second_lost before (p ∷ q ∷ ps) = gap_after (seal p) ++ (before ++ (gap_after (seal (marked q)) ++ flat_map (λ (b : List ℕ). gap_after (seal b)) ps))

-- Two equal cards.
abbrev pub card_twice : List (List ℕ)
card_twice = packets_of 0x1B (0x38 ∷ []) ++ packets_of 0x1B (0x38 ∷ [])

-- 501 equal characters in pieces of 250.
abbrev pub plain_pieces : List (List ℕ)
plain_pieces = bodies_of 0x1B (replicate 250 0x41 ∷ replicate 250 0x41 ∷ (0x41 ∷ []) ∷ [])

-- ---- a barred hub

abbrev pub piece : ℕ → ℕ → ℕ → List ℕ
piece status code byte = seal (body_of decode_data reader status (code ∷ byte ∷ []))

-- A piece with another type inside a message bars the hub. Its resend, and a whole message, are refused until a message gap.
abbrev pub barred_line : List Event
barred_line =
    flat_map gap_after (piece 2 0x1B 0x38 ∷ piece 0 0x1C 0x39 ∷ piece 1 0x1C 0x39 ∷ piece 0 0x1C 0x39 ∷ []) ++ (MessageGap ∷ gap_after (piece 0 0x1C 0x39))

unfoldable pub barred_tells : List joiner.Output
barred_tells = (through hub.hub_step hub.switched_on barred_line).told

-- What it must tell: refused, its resend and a fresh copy refused too, and behind the message gap the same packet is a message.
abbrev pub barred_expected : List joiner.Output
barred_expected =
    joiner.acknowledged joiner.added
    ++ (joiner.refusing Barred ++ (joiner.refusing Barred ++ (joiner.refusing Barred ++ joiner.acknowledged (joiner.handed 0x1C (0x39 ∷ [])))))
