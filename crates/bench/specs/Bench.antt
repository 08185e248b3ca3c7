-- §14, the bench: a hub and a reader's whole end on one line. A copy of a packet goes to the hub, the hub's answer
-- comes back, and each of the two arrives whole, is lost or is spoiled.
use Rattle.std.specs.Prelude.{ℕ, ◌<◌, Bool, true, false, ◌≡◌, eqb, get_or}
use mathlib.Core.List.{List, [], ◌∷◌, ◌++◌, map, flat_map}
use Rattle.words.specs.Lists.{pick, Bytes}
use Rattle.words.specs.Machine.{Done, after, through}
use Rattle.packet.specs.Packet.{seal, resend_bit}
use Rattle.framer.specs.Framer.{hearing, Heard, packet, refused as noPacket, framer_step}
use Rattle.framer.specs.declared.Event.{Event}
use Rattle.framer.specs.declared.Event.TheVariants.{Byte, CharacterGap, MessageGap}
use Rattle.hub.specs.Joiner as joiner
use Rattle.hub.specs.Hub.{HubState, hub_step}
use Rattle.sender.specs.Sender as sender
use Rattle.reader.specs.Reader.{ReaderState, Output, refused, repeated, beeped, switched, answered, sent, reader_step, start_message, time_out}
use Rattle.reader.specs.Promises.{sent_of}

-- ---- the line

-- What becomes of the bytes of a copy or of an answer.
pub data Fate : Type 0 where
  whole : Fate
  lost : Fate
  spoiled : List ℕ → Fate

unfoldable pub left : Fate → List ℕ → List ℕ
left whole bytes = bytes
left lost bytes = []
left (spoiled other) bytes = other

-- What arrives. The sender causes a character gap after each copy, the hub one after each answer; these always come.
unfoldable pub gap_after : List ℕ → List Event
gap_after bytes = map Byte bytes ++ (CharacterGap ∷ [])

unfoldable pub arrives : Fate → List ℕ → List Event
arrives f bytes = gap_after (left f bytes)

-- The packets that a framer with nothing begun accepts in bytes and the gap after them.
unfoldable pub packets_in : List Heard → List (List ℕ)
packets_in [] = []
packets_in (packet body ∷ hs) = body ∷ packets_in hs
packets_in (noPacket r ∷ hs) = packets_in hs

unfoldable pub accepted : List ℕ → List (List ℕ)
accepted bytes = packets_in (through framer_step (hearing []) (gap_after bytes)).told

-- Bytes may be spoiled only so that no packet is accepted in them.
pub data Fair : Fate → Type 0 where
  fair_whole : Fair whole
  fair_lost : Fair lost
  fair_spoiled : {bytes : List ℕ} → accepted bytes ≡ [] → Fair (spoiled bytes)

-- One try of a packet: what becomes of its copy going, and of the answer coming back.
pub record Try : Type 0 where
  pub going : Fate
  pub coming : Fate

-- ---- the log

-- A packet as its body without resend mark, the bytes of every copy that the sender wrote, and the tries of the copies, the latest first.
pub record Tried : Type 0 where
  pub body : List ℕ
  pub copies : List (List ℕ)
  pub tries : List Try

-- What the reader calls a message that it began.
pub data Ending : Type 0 where
  delivered : Ending
  failed : Ending
  out : Ending

-- A message that was begun: whether a message gap came first, its ending, and those of its packets that were sent, the latest first.
pub record Begun : Type 0 where
  pub code : ℕ
  pub bytes : List ℕ
  pub gap : Bool
  pub ending : Ending
  pub packets : List Tried

-- A message that the hub handed out.
pub record Message : Type 0 where
  pub code : ℕ
  pub bytes : List ℕ

-- Something happens to the latest one.
unfoldable pub latest : {A : Type 0} → (A → A) → List A → List A
latest f [] = []
latest f (x ∷ xs) = f x ∷ xs

-- One more copy of a packet is written; one more is tried.
abbrev pub with_copy : List ℕ → Tried → Tried
with_copy bytes p = record { body = p.body; copies = bytes ∷ p.copies; tries = p.tries }

abbrev pub with_try : Try → Tried → Tried
with_try t p = record { body = p.body; copies = p.copies; tries = t ∷ p.tries }

-- A packet of a message is sent for the first time; it is sent again; it has a try; the message ends.
abbrev pub with_packets : List Tried → Begun → Begun
with_packets ps m = record { code = m.code; bytes = m.bytes; gap = m.gap; ending = m.ending; packets = ps }

abbrev pub sending : List ℕ → Begun → Begun
sending body m = with_packets (record { body = body; copies = seal body ∷ []; tries = [] } ∷ m.packets) m

abbrev pub resending : List ℕ → Begun → Begun
resending body m = with_packets (latest (with_copy (seal body)) m.packets) m

abbrev pub trying : Try → Begun → Begun
trying t m = with_packets (latest (with_try t) m.packets) m

abbrev pub ending : Ending → Begun → Begun
ending x m = record { code = m.code; bytes = m.bytes; gap = m.gap; ending = x; packets = m.packets }

-- ---- the bench

-- The copy on the line, as its body (no bytes: none), and the messages begun, the latest first.
pub record Sheet : Type 0 where
  pub copy : List ℕ
  pub log : List Begun

-- Both ends, the sheet, the messages handed out, the latest first, and every byte that either end wrote besides copies and their answers.
pub record Bench : Type 0 where
  pub hub : HubState
  pub reader : ReaderState
  pub sheet : Sheet
  pub handed : List Message
  pub stray : List ℕ

-- The messages that a hub hands out, before those that it handed out earlier.
unfoldable pub handing : List joiner.Output → List Message → List Message
handing [] ms = ms
handing (joiner.added ∷ os) ms = handing os ms
handing (joiner.repeated ∷ os) ms = handing os ms
handing (joiner.handed code bytes ∷ os) ms = handing os (record { code = code; bytes = bytes } ∷ ms)
handing (joiner.refused r ∷ os) ms = handing os ms
handing (joiner.answered bytes ∷ os) ms = handing os ms

-- The answers that a hub gives, in order.
unfoldable pub hub_answers : List joiner.Output → List (List ℕ)
hub_answers [] = []
hub_answers (joiner.added ∷ os) = hub_answers os
hub_answers (joiner.repeated ∷ os) = hub_answers os
hub_answers (joiner.handed code bytes ∷ os) = hub_answers os
hub_answers (joiner.refused r ∷ os) = hub_answers os
hub_answers (joiner.answered bytes ∷ os) = bytes ∷ hub_answers os

-- The bytes that a reader answers with.
unfoldable pub answers_in : List Output → List ℕ
answers_in [] = []
answers_in (refused r ∷ os) = answers_in os
answers_in (repeated ∷ os) = answers_in os
answers_in (beeped row ∷ os) = answers_in os
answers_in (switched d ∷ os) = answers_in os
answers_in (answered bytes ∷ os) = bytes ++ answers_in os
answers_in (sent x ∷ os) = answers_in os

-- What the sender gives out goes on the sheet. A copy without the mark is a packet's first, one with it is another of the same packet.
unfoldable pub noted : Sheet → sender.Sent → Sheet
noted s (sender.copy gap body) = record { copy = body; log = latest (pick (eqb (resend_bit (get_or body 3 0)) 0) (sending body) (resending body)) s.log }
noted s (sender.delivered n) = record { copy = []; log = latest (ending delivered) s.log }
noted s (sender.failed n) = record { copy = []; log = latest (ending failed) s.log }
noted s (sender.refused r) = s

unfoldable pub noting : Sheet → List sender.Sent → Sheet
noting s [] = s
noting s (x ∷ xs) = noting (noted s x) xs

-- A start: where the sender says that a message gap is due, it comes before the first copy. A start that is refused begins nothing.
unfoldable pub gap_first : Bool → HubState → Done HubState joiner.Output
gap_first true hub = hub_step hub MessageGap
gap_first false hub = record { next = hub; told = [] }

abbrev pub opened : ℕ → List ℕ → Bool → Begun
opened code m gap = record { code = code; bytes = m; gap = gap; ending = out; packets = [] }

unfoldable pub begins : Bench → ℕ → List ℕ → ReaderState → List sender.Sent → Bench
begins b code m r [] = b
begins b code m r (sender.copy gap body ∷ xs) =
    let h = gap_first gap b.hub in
    record {
      hub = h.next;
      reader = r;
      sheet = noting (record { copy = []; log = opened code m gap ∷ b.sheet.log }) (sender.copy gap body ∷ xs);
      handed = handing h.told b.handed;
      stray = b.stray ++ flat_map (λ (bytes : List ℕ). bytes) (hub_answers h.told);
    }
begins b code m r (sender.delivered n ∷ xs) = b
begins b code m r (sender.failed n ∷ xs) = b
begins b code m r (sender.refused x ∷ xs) = b

unfoldable pub begin : Bench → ℕ → List ℕ → Bench
begin b code m = begins b code m (start_message b.reader code m).next (sent_of (start_message b.reader code m).told)

-- A try: the copy goes to the hub and the hub's answer comes to the reader; where the reader's sender heeds nothing, a time-out follows.
unfoldable pub hub_hears : Bench → Try → Done HubState joiner.Output
hub_hears b t = through hub_step b.hub (arrives t.going (seal b.sheet.copy))

unfoldable pub in_time : List sender.Sent → Done ReaderState Output → Done ReaderState Output
in_time [] d = after d.told (time_out d.next)
in_time (x ∷ xs) d = d

unfoldable pub reader_hears : Bench → Try → List joiner.Output → Done ReaderState Output
reader_hears b t told =
    let d = through reader_step b.reader (flat_map (arrives t.coming) (hub_answers told)) in
    in_time (sent_of d.told) d

unfoldable pub tried : Bench → Try → Done HubState joiner.Output → Done ReaderState Output → Bench
tried b t h r =
    record {
      hub = h.next;
      reader = r.next;
      sheet = noting (record { copy = b.sheet.copy; log = latest (trying t) b.sheet.log }) (sent_of r.told);
      handed = handing h.told b.handed;
      stray = b.stray ++ answers_in r.told;
    }

-- With no copy on the line there is nothing to try.
unfoldable pub trial : List ℕ → Bench → Try → Bench
trial [] b t = b
trial (x ∷ xs) b t = tried b t (hub_hears b t) (reader_hears b t (hub_hears b t).told)

-- The moves of a bench.
pub data Move : Type 0 where
  start : ℕ → List ℕ → Move
  attempt : Try → Move

unfoldable pub bench_step : Bench → Move → Bench
bench_step b (start code m) = begin b code m
bench_step b (attempt t) = trial b.sheet.copy b t

unfoldable pub played : Bench → List Move → Bench
played b [] = b
played b (m ∷ ms) = played (bench_step b m) ms

-- The line carries bytes, and is fair to copies and answers.
pub data FairMove : Move → Type 0 where
  fair_start : {code : ℕ} {m : List ℕ} → code < 256 → Bytes m → FairMove (start code m)
  fair_try : {t : Try} → Fair t.going → Fair t.coming → FairMove (attempt t)

-- At the start the hub stands right behind a message gap, whatever came before it.
unfoldable pub bench : HubState → ReaderState → Bench
bench hub reader = record { hub = (hub_step hub MessageGap).next; reader = reader; sheet = record { copy = []; log = [] }; handed = []; stray = [] }
