-- The line buffer of an end that remembers its last accepted packet (§8, §11): two halves, each as long as a packet can be. One half
-- receives, and an accepted packet stays where it was received while the other half takes the next.
use Rattle.std.specs.Prelude.{ℕ, ◌*◌, ◌≤◌, Bool, true, false, not, List, [], ◌++◌, ◌≡◌, leb, eqb, length, take, drop, Option, Some, None}
use Rattle.words.specs.Lists.{pick, Bytes}
use Rattle.packet.specs.Sizes.{body_size, packet_size}
use Rattle.framer.specs.Framer.{Line, hearing, silent, framer_step}
use Rattle.framer.specs.Promises.{line_of, control_of, framed_of, line_after, Frames}
use Rattle.framer.specs.declared.Event.{Event}
use Rattle.framer.specs.declared.Event.TheVariants.{Byte, CharacterGap, MessageGap}
use Rattle.framer.specs.declared.Framer.{Framer}
use Rattle.framer.specs.declared.Halves.{Halves}
use Rattle.framer.specs.declared.Found.TheVariants.{Nothing}
use Rattle.framer.specs.declared.Going.{Going}
use Rattle.framer.specs.declared.Going.TheVariants.{On, Woken, Left}
use Rattle.framer.specs.declared.Listened.{Listened}

abbrev pub line_size : ℕ
line_size = 2 * packet_size

-- Where a half starts, and its bytes.
unfoldable pub place_of : Bool → ℕ
place_of second = pick second packet_size 0

unfoldable pub half_of : Bool → List ℕ → List ℕ
half_of second buffer = take packet_size (drop (place_of second) buffer)

-- Any control value is taken: a last packet longer than a packet can be is none.
unfoldable pub last_of : Halves → ℕ
last_of h = pick (leb h.last body_size) h.last 0

-- What control value and buffer stand for: the line, and the last accepted packet's body (no bytes: none).
unfoldable pub line_in : Halves → List ℕ → Line
line_in h buffer = line_of h.framer (half_of h.second buffer)

unfoldable pub kept_in : Halves → List ℕ → List ℕ
kept_in h buffer = take (last_of h) (drop (place_of (not h.second)) buffer)

-- The n bytes that stand in the half that receives.
unfoldable pub received_in : Halves → List ℕ → ℕ → List ℕ
received_in h buffer n = pick (leb n packet_size) (take n (drop (place_of h.second) buffer)) []

abbrev pub idle_halves : Halves
idle_halves = record { framer = control_of (hearing []); second = false; last = 0 }

-- The framer's control value is now this one; all else is left as it was.
abbrev pub moved_of : Halves → Framer → Halves
moved_of h f = record { framer = f; second = h.second; last = h.last }

-- After an event: the framer's control value, and the buffer with the receiving half put back.
unfoldable pub listened_of : Halves → List ℕ → Event → Listened
listened_of h buffer e =
    record {
      halves = moved_of h (framed_of h.framer (half_of h.second buffer) e).framer;
      found = (framed_of h.framer (half_of h.second buffer) e).found;
    }

unfoldable pub buffer_after : Halves → List ℕ → Event → List ℕ
buffer_after h buffer e =
    take (place_of h.second) buffer ++ (line_after h.framer (half_of h.second buffer) e ++ drop packet_size (drop (place_of h.second) buffer))

-- Whether the framer tells nothing of an event. Then only its own part of a control value is written.
unfoldable pub tells_nothing : Halves → List ℕ → Event → Bool
tells_nothing h buffer e = silent (framer_step (line_in h buffer) e).told

-- The halves by their parts.
abbrev pub halves_with : Framer → Bool → ℕ → Halves
halves_with f second last = record { framer = f; second = second; last = last }

-- The events of the short way: a byte or a character gap of which the framer tells nothing. The last packet's length has no part in it.
unfoldable pub goes_on : Framer → Bool → List ℕ → Event → Bool
goes_on f second buffer (Byte b) = tells_nothing (halves_with f second 0) buffer (Byte b)
goes_on f second buffer CharacterGap = tells_nothing (halves_with f second 0) buffer CharacterGap
goes_on f second buffer MessageGap = false

-- After a packet of n bytes was accepted.
abbrev pub accepted_of : Halves → ℕ → Halves
accepted_of h n = record { framer = h.framer; second = not h.second; last = n }

-- ---- promises

pub record IdleHalves (r : Halves) : Type 0 where
  pub is : r ≡ idle_halves

pub record Listens (h : Halves) (buffer : List ℕ) (e : Event) (r : Listened) (buffer' : List ℕ) : Type 0 where
  pub is : r ≡ listened_of h buffer e
  pub buffer_is : buffer' ≡ buffer_after h buffer e
  pub long : length buffer ≡ line_size
  pub bytes : Bytes buffer'

pub record Received (h : Halves) (buffer : List ℕ) (n : ℕ) (r : List ℕ) : Type 0 where
  pub is : r ≡ received_in h buffer n
  pub long : n ≤ packet_size → length r ≡ n

pub record Kept (h : Halves) (buffer r : List ℕ) : Type 0 where
  pub is : r ≡ kept_in h buffer

pub record AcceptsLast (h : Halves) (n : ℕ) (r : Halves) : Type 0 where
  pub is : r ≡ accepted_of h n

pub record Place (second : Bool) (r : ℕ) : Type 0 where
  pub is : r ≡ place_of second
  pub most : r ≤ packet_size

pub record Last (h : Halves) (r : ℕ) : Type 0 where
  pub is : r ≡ last_of h
  pub most : r ≤ body_size

-- What the short way did, by whether the framer was deaf and is, and how many bytes are begun now. It wakes with nothing begun, and one that
-- grows deaf tells why: no other change is made in silence.
abbrev pub going_by : Bool → Bool → ℕ → Going
going_by true true n = On n
going_by true false n = pick (eqb n 0) Woken Left
going_by false true n = Left
going_by false false n = On n

-- Where it goes on, what `listen` promises, and nothing is found (`short_way_listens`); else nothing is done. A short way takes its
-- event without a test for number 13: it stands for an event with rooms of full size, and whoever lends rooms tests them first.
pub data GoesOn (f : Framer) (second : Bool) (buffer : List ℕ) (e : Event) : Going → List ℕ → Type 0 where
  on : {g : Going} {next : Framer} {buffer' : List ℕ} → (g ≡ Left → ⊥) → g ≡ going_by f.deaf next.deaf next.count → goes_on f second buffer e ≡ true →
      ((last : ℕ) → Listens (halves_with f second last) buffer e (record { halves = halves_with next second last; found = Nothing }) buffer') →
      GoesOn f second buffer e g buffer'
  left : {buffer' : List ℕ} → goes_on f second buffer e ≡ false → buffer' ≡ buffer → GoesOn f second buffer e Left buffer'

-- How many bytes are begun with this one behind them; none where it was left, for the framer has something to tell of it.
pub record Inside (f : Framer) (line : List ℕ) (b : ℕ) (r : Option ℕ) (line' : List ℕ) : Type 0 where
  pub frames : {n : ℕ} → r ≡ Some n → Frames f line (Byte b) (record { framer = record { count = n; deaf = false }; found = Nothing }) line'
  pub left : r ≡ None → (line' ≡ line) × (silent (framer_step (line_of f line) (Byte b)).told ≡ false)
