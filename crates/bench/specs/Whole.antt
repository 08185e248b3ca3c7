-- §14: a message goes from the sender to the hub, and every copy arrives whole.
use Rattle.std.specs.Prelude.{ℕ, ◌-◌, ◌≡◌, false, length, replicate}
use mathlib.Core.List.{List, [], ◌∷◌, ◌++◌, map, flat_map}
use Rattle.words.specs.Machine.{Done}
use Rattle.packet.specs.Opcodes.{host}
use Rattle.packet.specs.Packet.{seal, reply_body}
use Rattle.packet.specs.declared.Reply.TheVariants.{Ack}
use Rattle.framer.specs.Framer.{hearing}
use Rattle.framer.specs.declared.Event.{Event}
use Rattle.framer.specs.declared.Event.TheVariants.{Byte, CharacterGap}
use Rattle.hub.specs.Joiner.{none, Output, added, handed, acknowledged}
use Rattle.hub.specs.Hub.{HubState}
use Rattle.sender.specs.Pieces.{packets_of}
use Rattle.bench.specs.Bench.{hub_answers}

-- A copy of a packet on the line: its bytes, and what comes behind them.
unfoldable pub copy_then : List Event → List ℕ → List Event
copy_then behind body = map Byte (seal body) ++ behind

-- The packets of a message, each copied once. The sender causes a character gap after each copy.
unfoldable pub copies_of : ℕ → List ℕ → List Event
copies_of code m = flat_map (copy_then (CharacterGap ∷ [])) (packets_of code m)

-- The same with no gap between: a whole packet may follow another without one.
unfoldable pub close_copies_of : ℕ → List ℕ → List Event
close_copies_of code m = flat_map (copy_then []) (packets_of code m)

-- A hub at rest, as one just switched on: nothing begun, no bar and nothing gathered. Which packet it accepted last is no matter.
pub record Rests (hub : HubState) : Type 0 where
  pub idle : hub.line ≡ hearing []
  pub free : hub.core.barred ≡ false
  pub empty : hub.core.gathered ≡ none

-- Each packet but the last is added, and at the last exactly this message is handed out; each is acknowledged.
unfoldable pub whole_told : ℕ → List ℕ → List Output
whole_told code m = flat_map acknowledged (replicate (length (packets_of code m) - 1) added ++ (handed code m ∷ []))

-- A run of the hub that takes this message in: what it tells, an ACK for each packet, and the hub at rest again.
pub record TakesIn (code : ℕ) (m : List ℕ) (run : Done HubState Output) : Type 0 where
  pub told_is : run.told ≡ whole_told code m
  pub answers : hub_answers run.told ≡ replicate (length (packets_of code m)) (seal (reply_body host Ack))
  pub rests : Rests run.next
