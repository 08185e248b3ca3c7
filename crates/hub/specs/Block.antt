-- §22, a block: many bytes in one call, with no gap among them. It is the hub's own run over them, one by one, that stops where it is left.
use Rattle.std.specs.Prelude.{ℕ, ◌-◌, Bool, true, false, List, [], ◌∷◌, ◌++◌, map, ◌≡◌, ltb, length, take}
use Rattle.words.specs.Lists.{pick, either, over}
use Rattle.words.specs.Machine.{Done, through, reach}
use Rattle.packet.specs.Refusals.{number_of}
use Rattle.packet.specs.declared.Refusal.TheVariants as refusal
use Rattle.framer.specs.Behind.{framed}
use Rattle.framer.specs.Halves.{buffer_after}
use Rattle.framer.specs.declared.Event.{Event}
use Rattle.framer.specs.declared.Event.TheVariants.{Byte}
use Rattle.hub.specs.Joiner.{Output, added, repeated, handed, refused, answered, bytes_of}
use Rattle.hub.specs.Hub.{HubState, heard_step, hub_step}
use Rattle.hub.specs.Promises.{message_of, state_of, control_after, cleared_control, hub_answer_size, too_small}
use Rattle.hub.specs.declared.Hub.{Hub}
use Rattle.hub.specs.declared.Told.{Told}
use Rattle.hub.specs.declared.Told.TheVariants as told

-- The most bytes that one call takes.
abbrev pub block_size : ℕ
block_size = 4096

-- ---- what is told of a run

-- What each of these brings, in order.
unfoldable pub all_of : {A : Type 0} → (Output → List A) → List Output → List A
all_of brings [] = []
all_of brings (o ∷ os) = brings o ++ all_of brings os

-- All that goes out, one after the other.
abbrev pub sent_by : Output → List ℕ
sent_by added = []
sent_by repeated = []
sent_by (handed code bytes) = []
sent_by (refused r) = []
sent_by (answered bytes) = bytes

abbrev pub answers_of : List Output → List ℕ
answers_of os = all_of sent_by os

-- Whether a message was handed out.
unfoldable pub hands_out : List Output → Bool
hands_out [] = false
hands_out (added ∷ xs) = hands_out xs
hands_out (repeated ∷ xs) = hands_out xs
hands_out (handed code bytes ∷ xs) = true
hands_out (refused r ∷ xs) = hands_out xs
hands_out (answered bytes ∷ xs) = hands_out xs

-- What a block tells by name: a message, and refusals 1 and 2. All else was answered on the line, and the answer says it.
abbrev pub named_by : Output → List Told
named_by added = []
named_by repeated = []
named_by (handed code bytes) = told.Message code (length bytes) ∷ []
named_by (refused r) = pick (ltb (number_of r) 3) (told.Refused r ∷ []) []
named_by (answered bytes) = []

abbrev pub names_of : List Output → List Told
names_of os = all_of named_by os

-- The last of them, behind what was named before; there is at most one (`one_name`).
unfoldable pub last_of : {A : Type 0} → A → List A → A
last_of before [] = before
last_of before (x ∷ xs) = last_of x xs

abbrev pub name_of : Told → List Output → Told
name_of before os = last_of before (names_of os)

-- ---- how far it goes

-- A block is left when a message is complete, or when less of the answer room remains than every event asks for.
unfoldable pub leaves : ℕ → List Output → Bool
leaves room told = either (hands_out told) (ltb (room - length (answers_of told)) hub_answer_size)

-- Over 4,096 bytes.
unfoldable pub too_long : List ℕ → Bool
too_long bytes = ltb block_size (length bytes)

-- How many bytes a call takes. One that is refused takes none: by 13 for its rooms, then by 15 for its length.
unfoldable pub taken_of : HubState → List ℕ → List ℕ → List ℕ → ℕ
taken_of hub answer message bytes = pick (either (too_small answer message) (too_long bytes)) 0 (reach hub_step (leaves (length answer)) hub [] (map Byte bytes))

unfoldable pub block_told_of : List ℕ → List ℕ → List ℕ → List Output → Told
block_told_of answer message bytes os =
    pick (too_small answer message) (told.Refused refusal.Room) (pick (too_long bytes) (told.Refused refusal.Long) (name_of told.Nothing os))

-- ---- what single events leave

-- A hub as it stands, control value and buffers, and what one event does there: what `Hears` says of it, with rooms of full size.
pub record HubAt : Type 0 where
  pub hub : Hub
  pub line : List ℕ
  pub gather : List ℕ

abbrev pub state_at : HubAt → HubState
state_at h = state_of h.hub h.line h.gather

unfoldable pub hear_step : HubAt → Event → Done HubAt Output
hear_step h e =
    record {
      next =
          record {
            hub = cleared_control e (control_after h.hub h.line e (framed heard_step (state_at h) e));
            line = buffer_after h.hub.line h.line e;
            gather = over (bytes_of (framed heard_step (state_at h) e).next.core.gathered) h.gather;
          };
      told = (hub_step (state_at h) e).told;
    }

-- ---- promises

-- The first n bytes, one by one: the run, and what it leaves where the hub stands.
abbrev pub run_of : HubAt → List ℕ → ℕ → Done HubState Output
run_of h bytes n = through hub_step (state_at h) (map Byte (take n bytes))

abbrev pub left_by : HubAt → List ℕ → ℕ → HubAt
left_by h bytes n = (through hear_step h (map Byte (take n bytes))).next

-- What becomes of a block: the hub afterwards, how many bytes were taken, what is told by name, and how many bytes of answers there are.
pub record Block : Type 0 where
  pub hub : Hub
  pub taken : ℕ
  pub told : Told
  pub answer : ℕ

-- What a call leaves that took so many bytes: what they leave one by one, and in the answer room their answers one after the other.
pub record TakesBytes (hub : Hub) (line gather answer message bytes : List ℕ) (r : Block) (line' gather' answer' message' : List ℕ) : Type 0 where
  pub size_is : r.answer ≡ length (answers_of (run_of (record { hub = hub; line = line; gather = gather }) bytes r.taken).told)
  pub left_is : ◌≡◌ {A = HubAt} (record { hub = r.hub; line = line'; gather = gather' }) (left_by (record { hub = hub; line = line; gather = gather }) bytes r.taken)
  pub next : state_of r.hub line' gather' ≡ (run_of (record { hub = hub; line = line; gather = gather }) bytes r.taken).next
  pub answer_is : answer' ≡ over (answers_of (run_of (record { hub = hub; line = line; gather = gather }) bytes r.taken).told) answer
  pub message_is : message' ≡ over (message_of (run_of (record { hub = hub; line = line; gather = gather }) bytes r.taken).told) message

pub record HearsBlock (hub : Hub) (line gather answer message bytes : List ℕ) (r : Block) (line' gather' answer' message' : List ℕ) : Type 0 where
  pub taken_is : r.taken ≡ taken_of (state_of hub line gather) answer message bytes
  pub told_is : r.told ≡ block_told_of answer message bytes (run_of (record { hub = hub; line = line; gather = gather }) bytes r.taken).told
  pub takes : TakesBytes hub line gather answer message bytes r line' gather' answer' message'
