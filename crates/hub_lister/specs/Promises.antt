-- What the calls of the hub listing promise: how many characters are taken, the state, and every byte of the room for lines.
use Rattle.std.specs.Prelude.{ℕ, ◌+◌, ◌*◌, false, None, List, [], ◌∷◌, ◌++◌, ◌≡◌, take, drop}
use Rattle.packet.specs.Sizes.{message_size}
use Rattle.framer.specs.declared.Event.{Event}
use Rattle.hub.specs.Hub.{HubState, switched_on}
use Rattle.hub.specs.Promises.{state_of, on_control, hub_answer_size}
use Rattle.hub.specs.declared.Hub.{Hub}
use Rattle.hub.specs.declared.Told.{Told}
use Rattle.hub.specs.declared.Told.TheVariants as told
use Rattle.listing.specs.Lines.{line_of, answer_line}
use Rattle.listing.specs.Listing.{Reading, stops}
use Rattle.listing.specs.Session as session
use Rattle.listing.specs.Tokens.{take_of}
use Rattle.listing.specs.Promises as listing
use Rattle.listing.specs.Promises.{WritesOn, Steps}
use Rattle.hub_lister.specs.Listing.{happens, acts}
use Rattle.hub_lister.specs.declared.Lister.{Lister}
use Rattle.hub_lister.specs.declared.Listed.{Listed}
use Rattle.hub_lister.specs.declared.Buffers.{Buffers}
use Rattle.listing.specs.declared.Page.{Page}

-- What a control value and the hub's two buffers stand for.
abbrev pub reading_of : Lister → List ℕ → List ℕ → Reading HubState
reading_of l line gather = record { machine = state_of l.hub line gather; waiting = l.waiting; ended = l.ended }

-- A message with its code type in front of it.
abbrev pub coded_size : ℕ
coded_size = message_size + 1

-- A line is a letter, three characters for each byte, and a line feed. One character brings a message and an answer at most.
abbrev pub message_line_size : ℕ
message_line_size = 3 * coded_size + 2

abbrev pub answer_line_size : ℕ
answer_line_size = 3 * hub_answer_size + 2

abbrev pub lines_size : ℕ
lines_size = message_line_size + answer_line_size

pub record Starts (r : Lister) : Type 0 where
  pub is : r ≡ record { hub = on_control; waiting = None; ended = false }

pub record Listens (l : Lister) (line gather text room : List ℕ) (r : Listed) (line' gather' room' : List ℕ) : Type 0 where
  pub hears : session.Hears acts lines_size (reading_of l line gather) text room r.taken r.count (reading_of r.lister line' gather') room'

pub record Finishes (l : Lister) (room : List ℕ) (r : ℕ) (room' : List ℕ) : Type 0 where
  pub finishes : listing.Finishes l.ended l.waiting room r room'

-- A listing that stands where some session has left it.
pub record Ran (l : Lister) (line gather : List ℕ) : Type 0 where
  pub ran : session.Ran acts lines_size switched_on (reading_of l line gather)

-- The same where the buffers are gone: with some buffers.
pub record Left (l : Lister) : Type 0 where
  pub line : List ℕ
  pub gather : List ℕ
  pub ran : Ran l line gather

-- ---- the functions inside

-- Behind the references of the struct lie the same rooms as before.
pub record SameBuffers (b b' : Buffers) : Type 0 where
  pub line : b'.line.ghost_name ≡ b.line.ghost_name
  pub gather : b'.gather.ghost_name ≡ b.gather.ghost_name

pub record Characters (l : Lister) (b : Buffers) (c : ℕ) (p : Page) (r : Lister) (b' : Buffers) (p' : Page) : Type 0 where
  pub steps : Steps (acts (state_of l.hub b.line.now b.gather.now) (take_of l.waiting c).waiting (take_of l.waiting c).token) p (reading_of r b'.line.now b'.gather.now) p'
  pub same : SameBuffers b b'

pub record Happens (hub : Hub) (b : Buffers) (e : Event) (p : Page) (r : Lister) (b' : Buffers) (p' : Page) : Type 0 where
  pub steps : Steps (happens (state_of hub b.line.now b.gather.now) e) p (reading_of r b'.line.now b'.gather.now) p'
  pub same : SameBuffers b b'

-- Nothing of the hub's buffers is looked at.
pub record Stops (hub : Hub) (p : Page) (r : Lister) (p' : Page) : Type 0 where
  pub steps : (line gather : List ℕ) → Steps (stops (state_of hub line gather)) p (reading_of r line gather) p'

-- How many bytes a message that is told has.
abbrev pub count_of : Told → ℕ
count_of told.Nothing = 0
count_of told.Added = 0
count_of told.Repeated = 0
count_of (told.Message code count) = count
count_of (told.Refused r) = 0

-- The line of a message, which stands in its room from the second byte on.
unfoldable pub told_line : Told → List ℕ → List ℕ
told_line told.Nothing message = []
told_line told.Added message = []
told_line told.Repeated message = []
told_line (told.Message code count) message = line_of 77 (code ∷ take count (drop 1 message))
told_line (told.Refused r) message = []

pub record MessageLine (t : Told) (message : List ℕ) (p p' : Page) : Type 0 where
  pub writes : WritesOn (told_line t message) p p'

pub record PutsLines (t : Told) (count : ℕ) (answer message : List ℕ) (p p' : Page) : Type 0 where
  pub writes : WritesOn (told_line t message ++ answer_line (take count answer)) p p'
