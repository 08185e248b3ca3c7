-- §8 and §9: the pieces of a message, joined at the hub.
use Rattle.std.specs.Prelude.{ℕ, ◌+◌, Bool, true, false, not, List, [], ◌∷◌, ◌++◌, eqb, ltb, length, get_or, drop}
use Rattle.words.specs.Lists.{pick}
use Rattle.words.specs.Machine.{Done, given}
use Rattle.packet.specs.Opcodes.{host}
use Rattle.packet.specs.Packet.{seal, data_in, more_bit, reply_body, unmarked, resent_equal}
use Rattle.packet.specs.Refusals.{nak_bytes}
use Rattle.packet.specs.Sizes.{message_size}
use Rattle.packet.specs.declared.Refusal.{Refusal}
use Rattle.packet.specs.declared.Refusal.TheVariants.{Barred}
use Rattle.packet.specs.declared.Reply.TheVariants.{Ack}

-- The pieces that wait: none, or a code type and the bytes so far. A piece of 0 bytes also opens a message.
pub data Gathered : Type 0 where
  none : Gathered
  some : ℕ → List ℕ → Gathered

-- The joiner: whether it is barred, the last accepted packet's body without its resend mark (no bytes: none), and what is gathered.
pub record Joiner : Type 0 where
  pub barred : Bool
  pub last : List ℕ
  pub gathered : Gathered

-- What happens, in the order of happening; `answered` has the bytes that go out.
pub data Output : Type 0 where
  added : Output
  repeated : Output
  handed : ℕ → List ℕ → Output
  refused : Refusal → Output
  answered : List ℕ → Output

-- §7: a packet that is taken gets its ACK behind what happened, so that a message is handed out first and then acknowledged.
abbrev pub acknowledged : Output → List Output
acknowledged o = o ∷ answered (seal (reply_body host Ack)) ∷ []

-- §6: a refusal gets its NAK.
abbrev pub refusing : Refusal → List Output
refusing r = refused r ∷ given answered (nak_bytes host r)

-- DECODE_DATA: code type, then 0 to 250 bytes.
unfoldable pub type_in : List ℕ → ℕ
type_in body = get_or (data_in body) 0 0

unfoldable pub piece_in : List ℕ → List ℕ
piece_in body = drop 1 (data_in body)

-- Another type inside a message.
unfoldable pub other_type : Gathered → ℕ → Bool
other_type none t = false
other_type (some u bytes) t = not (eqb u t)

unfoldable pub bytes_of : Gathered → List ℕ
bytes_of none = []
bytes_of (some u bytes) = bytes

-- Refusal 10 drops what was gathered and bars the hub.
unfoldable pub barring : Joiner → Done Joiner Output
barring j = record { next = record { barred = true; last = j.last; gathered = none }; told = refusing Barred }

-- A packet without bit 1 ends the message: it is handed out.
unfoldable pub joined : Joiner → List ℕ → Done Joiner Output
joined j body =
    pick (eqb (more_bit (get_or body 3 0)) 0)
    (record { next = record { barred = false; last = unmarked body; gathered = none }; told = acknowledged (handed (type_in body) (bytes_of j.gathered ++ piece_in body)) })
    (record { next = record { barred = false; last = unmarked body; gathered = some (type_in body) (bytes_of j.gathered ++ piece_in body) }; told = acknowledged added })

-- In this order: bar, repeat, type, total.
unfoldable pub adding : Joiner → List ℕ → Done Joiner Output
adding j body =
    pick (other_type j.gathered (type_in body)) (barring j)
    (pick (ltb message_size (length (bytes_of j.gathered) + length (piece_in body))) (barring j) (joined j body))

unfoldable pub join_step : Joiner → List ℕ → Done Joiner Output
join_step j body = pick j.barred (barring j) (pick (resent_equal j.last body) (record { next = j; told = acknowledged repeated }) (adding j body))
