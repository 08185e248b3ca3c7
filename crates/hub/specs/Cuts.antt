-- §22: what is left and brought by blocks, however the bytes are cut into calls, and by the same bytes one by one.
use Rattle.std.specs.Prelude.{ℕ, false, List, [], ◌∷◌, ◌++◌, ◌≡◌, take, drop}
use Rattle.words.specs.Machine.{through}
use Rattle.framer.specs.declared.Event.{Event}
use Rattle.hub.specs.Joiner.{Output, added, repeated, handed, refused, answered}
use Rattle.hub.specs.Hub.{hub_step}
use Rattle.hub.specs.Promises.{too_small, Hears}
use Rattle.hub.specs.Block.{all_of, answers_of, too_long, HubAt, state_at, hear_step, Block, HearsBlock}
use Rattle.hub.specs.declared.Hub.{Hub}
use Rattle.hub.specs.declared.Told.{Told}
use Rattle.hub.specs.declared.Told.TheVariants as told
use Rattle.hub.specs.declared.Taken.{Taken}

pub record Message : Type 0 where
  pub code : ℕ
  pub bytes : List ℕ

-- All messages of a run, in order.
abbrev pub handed_by : Output → List Message
handed_by added = []
handed_by repeated = []
handed_by (handed code bytes) = record { code = code; bytes = bytes } ∷ []
handed_by (refused r) = []
handed_by (answered bytes) = []

abbrev pub messages_of : List Output → List Message
messages_of os = all_of handed_by os

-- The message that a caller finds in its room.
abbrev pub message_in : Told → List ℕ → List Message
message_in told.Nothing room = []
message_in told.Added room = []
message_in told.Repeated room = []
message_in (told.Message code count) room = record { code = code; bytes = take count room } ∷ []
message_in (told.Refused r) room = []

-- Events one after the other, by the call that takes one, in rooms of full size: what is left, the messages found, and the answers.
pub data OneByOne : HubAt → List Event → HubAt → List Message → List ℕ → Type 0 where
  none : {h : HubAt} → OneByOne h [] h [] []
  one : {hub : Hub} {line gather answer message line₁ gather₁ answer₁ message₁ : List ℕ} {e : Event} {es : List Event} {r : Taken} {h : HubAt} {ms : List Message} {out : List ℕ} →
      too_small answer message ≡ false → Hears hub line gather answer message e r line₁ gather₁ answer₁ message₁ →
      OneByOne (record { hub = r.hub; line = line₁; gather = gather₁ }) es h ms out →
      OneByOne (record { hub = hub; line = line; gather = gather }) (e ∷ es) h (message_in r.told message₁ ++ ms) (take r.answer answer₁ ++ out)

-- Bytes in blocks, cut as the caller pleases: each call is given some of those that are left, and what it did not take is given again.
pub data InBlocks : HubAt → List ℕ → HubAt → List Message → List ℕ → Type 0 where
  none : {h : HubAt} → InBlocks h [] h [] []
  call : {hub : Hub} {line gather answer message line₁ gather₁ answer₁ message₁ bytes : List ℕ} {r : Block} {h : HubAt} {ms : List Message} {out : List ℕ} (n : ℕ) →
      too_small answer message ≡ false → too_long (take n bytes) ≡ false → HearsBlock hub line gather answer message (take n bytes) r line₁ gather₁ answer₁ message₁ →
      InBlocks (record { hub = r.hub; line = line₁; gather = gather₁ }) (drop r.taken bytes) h ms out →
      InBlocks (record { hub = hub; line = line; gather = gather }) bytes h (message_in r.told message₁ ++ ms) (take r.answer answer₁ ++ out)

-- What events bring, whoever gives them.
pub record Brings (h : HubAt) (es : List Event) (h' : HubAt) (ms : List Message) (out : List ℕ) : Type 0 where
  pub left : h' ≡ (through hear_step h es).next
  pub state : state_at h' ≡ (through hub_step (state_at h) es).next
  pub messages : ms ≡ messages_of (through hub_step (state_at h) es).told
  pub answers : out ≡ answers_of (through hub_step (state_at h) es).told
