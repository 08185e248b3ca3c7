-- What the hub's calls promise: what is told, the next state, the control value, and every byte of each lent buffer and room.
use Rattle.std.specs.Prelude.{ℕ, ◌+◌, ◌≤◌, Bool, true, false, not, List, [], ◌∷◌, ◌++◌, ◌≡◌, ltb, leb, eqb, length, take}
use Rattle.words.specs.Lists.{pick, either, over, over_at}
use Rattle.words.specs.Machine.{Done}
use Rattle.packet.specs.Opcodes.{host}
use Rattle.packet.specs.Packet.{unmarked, seal, reply_body}
use Rattle.packet.specs.Refusals.{nak_bytes}
use Rattle.packet.specs.Sizes.{answer_size, message_size}
use Rattle.packet.specs.declared.Reply.TheVariants.{Ack}
use Rattle.packet.specs.declared.Refusal.TheVariants as refusal
use Rattle.framer.specs.Behind.{framed}
use Rattle.framer.specs.Halves.{line_in, kept_in, received_in, idle_halves, listened_of, buffer_after, tells_nothing, accepted_of}
use Rattle.framer.specs.declared.Halves.{Halves}
use Rattle.framer.specs.declared.Event.{Event}
use Rattle.framer.specs.declared.Event.TheVariants.{Byte, CharacterGap, MessageGap}
use Rattle.hub.specs.Joiner.{Gathered, none, some, Joiner, Output, added, repeated, handed, refused, answered, bytes_of, adding}
use Rattle.hub.specs.Hub.{HubState, packet_step, heard_step, hub_step}
use Rattle.hub.specs.declared.Gathering.{Gathering}
use Rattle.hub.specs.declared.Hub.{Hub}
use Rattle.hub.specs.declared.Told.{Told}
use Rattle.hub.specs.declared.Told.TheVariants as told
use Rattle.hub.specs.declared.Joined.{Joined}
use Rattle.hub.specs.declared.Stepped.{Stepped}
use Rattle.hub.specs.declared.Taken.{Taken}

-- ---- the answers that are enums

-- What is told of one event, by name: the first thing that has one.
unfoldable pub told_of : List Output → Told
told_of [] = told.Nothing
told_of (added ∷ xs) = told.Added
told_of (repeated ∷ xs) = told.Repeated
told_of (handed code bytes ∷ xs) = told.Message code (length bytes)
told_of (refused r ∷ xs) = told.Refused r
told_of (answered bytes ∷ xs) = told_of xs

-- The bytes that go out for it, and the message that is handed out.
unfoldable pub answer_of : List Output → List ℕ
answer_of [] = []
answer_of (added ∷ xs) = answer_of xs
answer_of (repeated ∷ xs) = answer_of xs
answer_of (handed code bytes ∷ xs) = answer_of xs
answer_of (refused r ∷ xs) = answer_of xs
answer_of (answered bytes ∷ xs) = bytes

unfoldable pub message_of : List Output → List ℕ
message_of [] = []
message_of (added ∷ xs) = message_of xs
message_of (repeated ∷ xs) = message_of xs
message_of (handed code bytes ∷ xs) = bytes
message_of (refused r ∷ xs) = message_of xs
message_of (answered bytes ∷ xs) = message_of xs

-- ---- what control value and buffers stand for

-- Any control value is taken: a count that the buffer cannot have is 0, and so is what belongs to no message begun.
unfoldable pub sound_of : Gathering → Gathering
sound_of g =
    pick g.begun (record { barred = g.barred; begun = true; code = g.code; count = pick (leb g.count message_size) g.count 0 })
    (record { barred = g.barred; begun = false; code = 0; count = 0 })

pub record Sound (g : Gathering) : Type 0 where
  pub few : g.count ≤ message_size
  pub closed : g.begun ≡ false → (g.code ≡ 0) × (g.count ≡ 0)

unfoldable pub gathered_of : Gathering → List ℕ → Gathered
gathered_of g gather = pick g.begun (some g.code (take g.count gather)) none

unfoldable pub joiner_of : Gathering → List ℕ → List ℕ → Joiner
joiner_of g last gather = record { barred = g.barred; last = unmarked last; gathered = gathered_of g gather }

-- The control value of what is gathered.
abbrev pub gathering_of : Bool → Gathered → Gathering
gathering_of barred none = record { barred = barred; begun = false; code = 0; count = 0 }
gathering_of barred (some code bytes) = record { barred = barred; begun = true; code = code; count = length bytes }

unfoldable pub state_of : Hub → List ℕ → List ℕ → HubState
state_of hub line gather = record { line = line_in hub.line line; core = joiner_of (sound_of hub.gathering) (kept_in hub.line line) gather }

abbrev pub on_control : Hub
on_control = record { line = idle_halves; gathering = gathering_of false none }

-- ---- the control value and the line buffer afterwards

-- A packet that was added or ended a message is the last accepted one, and stays where it was received.
abbrev pub accepts_name : Told → Bool
accepts_name told.Nothing = false
accepts_name told.Added = true
accepts_name told.Repeated = false
accepts_name (told.Message code count) = true
accepts_name (told.Refused r) = false

unfoldable pub accepts : List Output → Bool
accepts os = accepts_name (told_of os)

-- Where the framer tells nothing, only its own part of the control value is written: what is gathered stays as it was read, also a value that no
-- run leaves, which is still read as what it stands for.
unfoldable pub control_after : Hub → List ℕ → Event → Done HubState Output → Hub
control_after hub line e d =
    record {
      line = pick (accepts d.told) (accepted_of (listened_of hub.line line e).halves (length d.next.core.last)) (listened_of hub.line line e).halves;
      gathering = pick (tells_nothing hub.line line e) hub.gathering (gathering_of d.next.core.barred d.next.core.gathered);
    }

-- A message gap clears the control value.
abbrev pub cleared_control : Event → Hub → Hub
cleared_control (Byte b) hub = hub
cleared_control CharacterGap hub = hub
cleared_control MessageGap hub = on_control

-- ---- promises

pub record Closed (barred : Bool) (r : Gathering) : Type 0 where
  pub is : r ≡ gathering_of barred none

pub record SwitchedOn (r : Hub) : Type 0 where
  pub is : r ≡ on_control

-- What every event asks of the answer room.
abbrev pub hub_answer_size : ℕ
hub_answer_size = answer_size

-- Number 13 is tested first, and the event is then not taken.
unfoldable pub too_small : List ℕ → List ℕ → Bool
too_small answer message = either (ltb (length answer) hub_answer_size) (ltb (length message) message_size)

pub record Hears (hub : Hub) (line gather answer message : List ℕ) (e : Event) (r : Taken) (line' gather' answer' message' : List ℕ) : Type 0 where
  pub is :
      r
      ≡ pick (too_small answer message) (record { hub = hub; told = told.Refused refusal.Room; answer = 0 })
      (record {
        hub = cleared_control e (control_after hub line e (framed heard_step (state_of hub line gather) e));
        told = told_of (hub_step (state_of hub line gather) e).told;
        answer = length (answer_of (hub_step (state_of hub line gather) e).told);
      })
  pub next : state_of r.hub line' gather' ≡ pick (too_small answer message) (state_of hub line gather) (hub_step (state_of hub line gather) e).next
  pub line_is : line' ≡ pick (too_small answer message) line (buffer_after hub.line line e)
  pub gather_is : gather' ≡ pick (too_small answer message) gather (over (bytes_of (framed heard_step (state_of hub line gather) e).next.core.gathered) gather)
  pub answer_is : answer' ≡ over (pick (too_small answer message) [] (answer_of (hub_step (state_of hub line gather) e).told)) answer
  pub message_is : message' ≡ over (pick (too_small answer message) [] (message_of (hub_step (state_of hub line gather) e).told)) message

-- ---- the functions inside, each against its own level of the definition

pub record Gatherings (g r : Gathering) : Type 0 where
  pub is : r ≡ sound_of g
  pub sound : Sound r

pub record OtherType (g : Gathering) (code : ℕ) (r : Bool) : Type 0 where
  pub is : r ≡ pick g.begun (not (eqb g.code code)) false

-- What one step of the joiner, d, leaves in the control value, the gather buffer and the message room.
pub record Joins (d : Done Joiner Output) (gather message : List ℕ) (r : Joined) (gather' message' : List ℕ) : Type 0 where
  pub told_is : r.told ≡ told_of d.told
  pub gathering_is : r.gathering ≡ gathering_of d.next.barred d.next.gathered
  pub gather_is : gather' ≡ over (bytes_of d.next.gathered) gather
  pub message_is : message' ≡ over (message_of d.told) message

-- The joining itself does not look at the last accepted packet.
pub record Adds (g : Gathering) (body gather message : List ℕ) (r : Joined) (gather' message' : List ℕ) : Type 0 where
  pub joins : (last : List ℕ) → Joins (adding (joiner_of g last gather) body) gather message r gather' message'

-- `at` bytes wait: a piece is put behind them, or both are handed out.
pub record Keeps (code at : ℕ) (piece gather : List ℕ) (r : Joined) (gather' : List ℕ) : Type 0 where
  pub is : r ≡ record { gathering = record { barred = false; begun = true; code = code; count = at + length piece }; told = told.Added }
  pub gather_is : gather' ≡ over_at at piece gather

pub record HandsOut (code at : ℕ) (piece gather message : List ℕ) (r : Joined) (message' : List ℕ) : Type 0 where
  pub is : r ≡ record { gathering = gathering_of false none; told = told.Message code (at + length piece) }
  pub message_is : message' ≡ over (take at gather ++ piece) message

pub record Bars (r : Joined) : Type 0 where
  pub is : r ≡ record { gathering = gathering_of true none; told = told.Refused refusal.Barred }

pub record Unchanged (g : Gathering) (t : Told) (r : Joined) : Type 0 where
  pub is : r ≡ record { gathering = g; told = t }

pub record Within (count r : ℕ) : Type 0 where
  pub is : r ≡ pick (leb count message_size) count 0
  pub most : r ≤ message_size

pub record Accepts (t : Told) (r : Bool) : Type 0 where
  pub is : r ≡ accepts_name t

pub record Stays (h : Halves) (g : Gathering) (t : Told) (r : Stepped) : Type 0 where
  pub is : r ≡ record { hub = record { line = h; gathering = g }; told = t }

pub record Settles (h : Halves) (n : ℕ) (joined : Joined) (r : Stepped) : Type 0 where
  pub is :
      r
      ≡ record {
        hub = record { line = pick (accepts_name joined.told) (accepted_of h n) h; gathering = joined.gathering };
        told = joined.told;
      }

-- A packet of n bytes in the half that receives: the joiner's step on it, and the control value.
pub record Receives (h : Halves) (g : Gathering) (n : ℕ) (line gather message : List ℕ) (r : Stepped) (gather' message' : List ℕ) : Type 0 where
  pub joined : Joined
  pub joins : Joins (packet_step (joiner_of g (kept_in h line) gather) (received_in h line n)) gather message joined gather' message'
  pub settles : Settles h n joined r

pub record NoRoom (hub : Hub) (r : Taken) : Type 0 where
  pub is : r ≡ record { hub = hub; told = told.Refused refusal.Room; answer = 0 }

pub record Cleared (hub : Hub) (e : Event) (r : Hub) : Type 0 where
  pub is : r ≡ cleared_control e hub

-- The same for a step of the whole hub before a message gap clears it.
pub record Steps (hub : Hub) (line gather message : List ℕ) (e : Event) (r : Stepped) (line' gather' message' : List ℕ) : Type 0 where
  pub told_is : r.told ≡ told_of (framed heard_step (state_of hub line gather) e).told
  pub hub_is : r.hub ≡ control_after hub line e (framed heard_step (state_of hub line gather) e)
  pub next : state_of r.hub line' gather' ≡ (framed heard_step (state_of hub line gather) e).next
  pub line_is : line' ≡ buffer_after hub.line line e
  pub gather_is : gather' ≡ over (bytes_of (framed heard_step (state_of hub line gather) e).next.core.gathered) gather
  pub message_is : message' ≡ over (message_of (framed heard_step (state_of hub line gather) e).told) message

-- The bytes that answer what is told, by its name.
abbrev pub name_bytes : Told → List ℕ
name_bytes told.Nothing = []
name_bytes told.Added = seal (reply_body host Ack)
name_bytes told.Repeated = seal (reply_body host Ack)
name_bytes (told.Message code count) = seal (reply_body host Ack)
name_bytes (told.Refused r) = nak_bytes host r

-- So many bytes, and these at the front of the answer room.
pub record Writes (bytes answer : List ℕ) (r : ℕ) (answer' : List ℕ) : Type 0 where
  pub is : r ≡ length bytes
  pub answer_is : answer' ≡ over bytes answer
