-- What each exported call leaves, from what the library's call and the two translations promise. Assumes nothing.
use Prim.Native.Nat.{ℕ, ◌≤◌, ◌<◌}
use mathlib.Core.Path.{◌≡◌, refl, sym, ◌∙◌}
use mathlib.Core.Bool.{Bool, true, false}
use mathlib.Core.List.{List, [], ◌∷◌}
use mathlib.Core.Logic.{◌⊎◌, inl, inr}
use native.Mathlib.Omega.{arith}
use lib.ListN.{length, drop}
use borrow.Author.Tests.{le-leb, lt-leb, le-ltb, lt-ltb}
use Rattle.std.proofs.Common.{Result, Ok, Err}
use Rattle.words.specs.Lists.{over}
use Rattle.words.proofs.Lists.{never}
use Rattle.packet.specs.Refusals.{number_of}
use Rattle.packet.specs.declared.Refusal.{Refusal}
use Rattle.packet.specs.declared.Refusal.TheVariants as refusal
use Rattle.packet.specs.Promises as packet
use Rattle.packet.specs.Sizes.{packet_size, answer_size, message_size}
use Rattle.packet.specs.declared.Reply.{Reply}
use Rattle.framer.specs.Promises as framing
use Rattle.framer.specs.Halves as halves
use Rattle.framer.specs.declared.Event.{Event}
use Rattle.framer.specs.declared.Framer.{Framer}
use Rattle.framer.specs.declared.Framed.{Framed}
use Rattle.hub.specs.Promises as joining
use Rattle.hub.specs.Block.{block_size, HearsBlock}
use Rattle.hub.proofs.Blocks as blocks
use Rattle.hub.proofs.Blocks.{refused_block}
use Rattle.hub.specs.declared.Hub.{Hub}
use Rattle.hub.specs.declared.Taken.{Taken}
use Rattle.framer.specs.declared.Going.{Going}
use Rattle.framer.specs.declared.Going.TheVariants.{On, Woken, Left}
use Rattle.sender.specs.Promises as sending
use Rattle.sender.specs.declared.Heard.{Heard}
use Rattle.sender.specs.declared.Sender.{Sender}
use Rattle.sender.specs.declared.Sending.{Sending}
use Rattle.sender.specs.declared.Outcome.{Outcome}
use Rattle.sender.specs.declared.Outcome.TheVariants as outcome
use Rattle.sender.proofs.Refusing as refusing
use Rattle.reader.proofs.Refusing as reader-refusing
use Rattle.table.specs.Table.{Outcome as Settled, done, refused as unsettled}
use Rattle.table.specs.Promises as settings
use Rattle.table.specs.Promises.{changed_of}
use Rattle.table.specs.declared.Table.{Table}
use Rattle.saved.specs.Saved.{edition1, read_form}
use Rattle.saved.specs.Promises as saved
use Rattle.reader.specs.Promises as reading
use Rattle.reader.specs.declared.Reader.{Reader}
use Rattle.reader.specs.declared.Taken.{Taken as Commanded}
use Rattle.reader.specs.declared.Started.{Started}
use Rattle.motikhund.specs.Lent.{Need, at_least, Lacking, here, there, Enough, none, more, Asks, IfNamed, KeptUnless, Kept, Made}
use Rattle.motikhund.specs.Control.{sender_control_size, reader_control_size, number_in, number_bytes, flag_in, framer_in, framer_bytes, hub_in, hub_bytes, sender_in, sender_bytes, reader_in, reader_bytes, FramerIn, PutsNumber, PutsFramer, HubIn, PutsHub, SenderIn, PutsSender, ReaderIn, PutsReader, Switches, PermanentChanged, flag_byte}
use Rattle.motikhund.specs.Numbers.{is_event, is_reply, no_head, EventOf, HeardOf, ReplyOf, RefusalNumber, result_number, ResultNumber, FoundNumber, FoundValues, HubNumber, HubValues, OutcomeNumber, OutcomeValue, StartValues, is_refused, OutcomeRefused, waits_number, ReaderNumber, ReaderValues, settled_number}
use Rattle.motikhund.specs.Promises.{PacketAnswers, FramerHears, GoesOn, HubHears, HubTakesBlock, HubHearsBlock, Brings, Begins, SenderStarts, SenderHears, SenderWaits, FreshReader, ReaderStarts, ReaderTimesOut, ReaderHears, ReaderLocked, ReaderSaves, ReaderLoads, ReaderSwitches}
use Rattle.motikhund.proofs.Reading.{number_back, framer_back, hub_back, sender_back, reader_back}

-- ---- what is lent

-- Not both.
lacking_enough : {needs : List Need} → Lacking needs → Enough needs → ⊥
lacking_enough (here h) (more l e) = omega arith
lacking_enough (there k) (more l e) = lacking_enough k e

-- One of three is too small.
pub one_of_3 : {n m k : ℕ} {s t u : List ℕ} {needs : List Need} →
    (length s < n) ⊎ (((n ≤ length s) × (length t < m)) ⊎ ((n ≤ length s) × (m ≤ length t) × (length u < k))) → Lacking (at_least n s ∷ at_least m t ∷ at_least k u ∷ needs)
one_of_3 (inl h) = here h
one_of_3 (inr (inl h)) = there (here h.1)
one_of_3 (inr (inr h)) = there (there (here h.2))

module _ {needs : List Need} {Refuses Takes : Type 0} where
  pub asks_13 : Lacking needs → Refuses → Asks needs Refuses Takes
  asks_13 k r = record { refuses = λ _. r; takes = λ e. absurd (lacking_enough k e) }

  pub asks_enough : Enough needs → Takes → Asks needs Refuses Takes
  asks_enough e t = record { refuses = λ k. absurd (lacking_enough k e); takes = λ _. t }

module _ {named : Bool} {Nothing Takes : Type 0} where
  passed : named ≡ false → Nothing → IfNamed named Nothing Takes
  passed e n = record { passes = λ _. n; takes = λ f. never (cc) }

  taken_by : named ≡ true → Takes → IfNamed named Nothing Takes
  taken_by e t = record { passes = λ f. never (cc); takes = λ _. t }

is_event_lem : {n : ℕ} → n ≤ 257 → is_event n ≡ true
unfolding is_event
is_event_lem {n} l = le-leb n 257 l

no_event : {n : ℕ} → 257 < n → is_event n ≡ false
unfolding is_event
no_event {n} l = lt-leb n 257 l

is_reply_lem : {n : ℕ} → n ≤ 256 → is_reply n ≡ true
unfolding is_reply
is_reply_lem {n} l = le-leb n 256 l

no_reply : {n : ℕ} → 256 < n → is_reply n ≡ false
unfolding is_reply
no_reply {n} l = lt-leb n 256 l

-- ---- control values that were written

number_kept : {n : ℕ} {control control' : List ℕ} → PutsNumber n control control' → Kept number_in number_bytes n control control'
unfolding over
number_kept {n} {control} k = record { control_is = k.is; reads = rw k.is (number_back n (drop (length (number_bytes n)) control) k.small) }

framer_kept : {f : Framer} {control control' : List ℕ} → PutsFramer f control control' → Kept framer_in framer_bytes f control control'
unfolding over
framer_kept {f} {control} k = record { control_is = k.is; reads = rw k.is (framer_back f (drop (length (framer_bytes f)) control) k.small) }

pub hub_kept : {h : Hub} {control control' : List ℕ} → PutsHub h control control' → Kept hub_in hub_bytes h control control'
unfolding over
hub_kept {h} {control} k = record { control_is = k.is; reads = rw k.is (hub_back h (drop (length (hub_bytes h)) control) k.small) }

sender_kept : {s : Sender} {control control' : List ℕ} → PutsSender s control control' → Kept sender_in sender_bytes s control control'
unfolding over
sender_kept {s} {control} k = record { control_is = k.is; reads = rw k.is (sender_back s (drop (length (sender_bytes s)) control) k.small) }

pub reader_kept : {r : Reader} {control control' : List ℕ} → PutsReader r control control' → Kept reader_in reader_bytes r control control'
unfolding over
reader_kept {r} {control} k = record { control_is = k.is; reads = rw k.is (reader_back r (drop (length (reader_bytes r)) control) k.small) }

-- What a start leaves: nothing is put back where it was refused.
refused_named : {P : Type 0} (o : Outcome) → is_refused o ≡ true → ((x : Refusal) → o ≡ outcome.Refused x → P) → P
refused_named outcome.Nothing e k = never (cc)
refused_named (outcome.Copy size gap) e k = never (cc)
refused_named (outcome.Delivered copies) e k = never (cc)
refused_named (outcome.Failed copies) e k = never (cc)
refused_named (outcome.Refused x) e k = k x refl

pub alone : {C : Type 0} {read : List ℕ → C} {bytes : C → List ℕ} {value before : C} {control : List ℕ} {refused : Bool} → refused ≡ true → before ≡ read control → value ≡ before →
    KeptUnless refused read bytes value control control
alone e before-is same = record { control_is = simp e; reads = sym (same ∙ before-is) }

pub put_back : {C : Type 0} {read : List ℕ → C} {bytes : C → List ℕ} {value : C} {control control' : List ℕ} {refused : Bool} → refused ≡ false →
    Kept read bytes value control control' → KeptUnless refused read bytes value control control'
put_back e k = record { control_is = k.control_is ∙ simp e; reads = k.reads }

brings : {o : Outcome} {r value : ℕ} → OutcomeValue o value → OutcomeNumber o r → Brings o r value
brings value told = record { told = told.is; value_is = value.is }

begins : {o : Outcome} {r : ℕ} {values : List ℕ} → StartValues o values → OutcomeNumber o r → Begins o r values
begins values told = record { told = told.is; values_are = values.is }

-- ---- calls that make a control value

made : {C : Type 0} {size : ℕ} {read : List ℕ → C} {bytes : C → List ℕ} {P : C → Type 0} {value : C} {control control' : List ℕ} → size ≤ length control → P value →
    Kept read bytes value control control' → Made size read bytes P control 0 control'
made {value = value} l p k = record { asks = asks_enough (more l none) (record { made = value; promise = p; told = refl; kept = k }) }

pub framer_made : {f : Framer} {control control' : List ℕ} → 9 ≤ length control → framing.Idle f → PutsFramer f control control' →
    Made 9 framer_in framer_bytes framing.Idle control 0 control'
framer_made l idle put = made l idle (framer_kept put)

pub hub_made : {h : Hub} {control control' : List ℕ} → 29 ≤ length control → joining.SwitchedOn h → PutsHub h control control' →
    Made 29 hub_in hub_bytes joining.SwitchedOn control 0 control'
hub_made l on put = made l on (hub_kept put)

pub sender_made : {failed : Bool} {s : Sender} {control control' : List ℕ} → sender_control_size ≤ length control → sending.Idle failed s → PutsSender s control control' →
    Made sender_control_size sender_in sender_bytes (sending.Idle failed) control 0 control'
sender_made l idle put = made l idle (sender_kept put)

pub reader_made : {t : Table} {r : Reader} {control control' : List ℕ} → reader_control_size ≤ length control → settings.Defaults t → reading.SwitchedOn t r → PutsReader r control control' →
    Made reader_control_size reader_in reader_bytes FreshReader control 0 control'
reader_made {t} l defaults on put = made l (record { table = t; defaults = defaults; switched = on }) (reader_kept put)

pub reader_woken : {before r : Reader} {control control' : List ℕ} → reader_control_size ≤ length control → ReaderIn control before → reading.PowersUp before r → PutsReader r control control' →
    Made reader_control_size reader_in reader_bytes (reading.PowersUp (reader_in control)) control 0 control'
reader_woken l before-is powers put = made l (rw before-is.is at powers) (reader_kept put)

-- ---- the packet

pub answer_none : {room : List ℕ} {source n : ℕ} → answer_size ≤ length room → 256 < n → PacketAnswers room source n 0 room 0
answer_none l m = record { asks = asks_enough (more l none) (passed (no_reply m) (refl, refl, refl)) }

pub packet_answers : {room room' : List ℕ} {source n r size : ℕ} {reply : Reply} {made : Result ℕ Refusal} → answer_size ≤ length room → n ≤ 256 → ReplyOf n reply →
    packet.Answer room source reply made room' →
    ResultNumber made 101 r →
    packet.SizeOf made size →
    PacketAnswers room source n r room' size
packet_answers {made = made} l m reply answers told value =
    record {
      asks =
          asks_enough (more l none)
          (taken_by (is_reply_lem m) (record { made = made; answers = rw reply.is at answers; told = told.is; value = value.is }));
    }

-- ---- the framer

pub framer_none : {control line : List ℕ} {n : ℕ} → 9 ≤ length control → packet_size ≤ length line → 257 < n → FramerHears control line n 0 control line no_head
framer_none c l m = record { asks = asks_enough (more c (more l none)) (passed (no_event m) (refl, refl, refl, refl)) }

pub framer_hears : {control line control' line' head : List ℕ} {n r : ℕ} {f : Framer} {e : Event} {framed : Framed} →
    9 ≤ length control →
    packet_size ≤ length line →
    n ≤ 257 →
    FramerIn control f →
    EventOf n e →
    framing.Frames f line e framed line' →
    PutsFramer framed.framer control control' →
    FoundValues framed.found head →
    FoundNumber framed.found r →
    FramerHears control line n r control' line' head
framer_hears {framed = framed} c l m before-is event frames put values told =
    record {
      asks =
          asks_enough (more c (more l none))
          (taken_by (is_event_lem m)
          (record { framed = framed; frames = rw (before-is.is, event.is) at frames; told = told.is; values = values.is; kept = framer_kept put }));
    }

-- ---- the short way

module _ {front line line' : List ℕ} {n : ℕ} {f : Framer} {e : Event} {going : Going} (before-is : FramerIn front f) (event : EventOf n e)
    (goes : halves.GoesOn f (flag_in front 9) line e going line') where
  pub went_on_lem : {front' : List ℕ} {count : ℕ} → going ≡ On count → PutsNumber count front front' → GoesOn front line n true front' line'
  went_on_lem q put = record { going = going; goes = rw (before-is.is, event.is) at goes; told = rw q refl; front_is = rw q (number_kept put) }

  pub went_awake : {front' : List ℕ} {next : Framer} → going ≡ Woken → framing.Idle next → PutsFramer next front front' → GoesOn front line n true front' line'
  went_awake q idle put = record { going = going; goes = rw (before-is.is, event.is) at goes; told = rw q refl; front_is = rw q (framer_kept (rw idle.is at put)) }

  pub was_left : going ≡ Left → GoesOn front line n false front line'
  was_left q = record { going = going; goes = rw (before-is.is, event.is) at goes; told = rw q refl; front_is = rw q refl }

-- ---- the hub

pub hub_13 : {control line gather answer message : List ℕ} {n : ℕ} → Lacking (at_least 29 control ∷ at_least joining.hub_answer_size answer ∷ at_least message_size message ∷ []) →
    HubHears control line gather answer message n 13 control line gather answer message (0 ∷ 0 ∷ 0 ∷ [])
hub_13 k = record { asks = asks_13 k (refl, refl, refl, refl, refl, refl, refl) }

module _ {control line gather answer message : List ℕ} {n : ℕ} (c : 29 ≤ length control) (a : joining.hub_answer_size ≤ length answer) (m : message_size ≤ length message) where
  pub hub_none : 257 < n → HubHears control line gather answer message n 0 control line gather answer message (0 ∷ 0 ∷ 0 ∷ [])
  hub_none l = record { asks = asks_enough (more c (more a (more m none))) (passed (no_event l) (refl, refl, refl, refl, refl, refl, refl)) }

  pub hub_hears_lem : {control' line' gather' answer' message' values : List ℕ} {r : ℕ} {hub : Hub} {e : Event} {taken : Taken} →
      n ≤ 257 →
      HubIn control hub →
      EventOf n e →
      joining.Hears hub line gather answer message e taken line' gather' answer' message' →
      PutsHub taken.hub control control' →
      HubValues taken.told taken.answer values →
      HubNumber taken.told r →
      HubHears control line gather answer message n r control' line' gather' answer' message' values
  hub_hears_lem {taken = taken} l before-is event hears put values told =
      record {
        asks =
            asks_enough (more c (more a (more m none)))
            (taken_by (is_event_lem l)
            (record { taken = taken; hears = rw (before-is.is, event.is) at hears; told = told.is; values_are = values.is; kept = hub_kept put }));
      }

-- A block.
block_13 : {control line gather answer message bytes : List ℕ} → Lacking (at_least 29 control ∷ []) →
    HubHearsBlock control line gather answer message bytes 13 control line gather answer message (0 ∷ 0 ∷ 0 ∷ 0 ∷ [])
block_13 k = record { asks = asks_13 k (refl, refl, refl, refl, refl, refl, refl) }

-- A room too small, or too many bytes: nothing is taken.
module _ {control line gather answer message bytes : List ℕ} (c : 29 ≤ length control) where
  block_unread : (x : Refusal) → HearsBlock (hub_in control) line gather answer message bytes (refused_block (hub_in control) x) line gather answer message →
      HubHearsBlock control line gather answer message bytes (number_of x) control line gather answer message (0 ∷ 0 ∷ 0 ∷ 0 ∷ [])
  block_unread x hears =
      record { asks = asks_enough (more c none) (record { block = refused_block (hub_in control) x; hears = hears; told = refl; values_are = refl; kept = record { control_is = refl; reads = refl } }) }

  block_answer : length answer < joining.hub_answer_size → HubHearsBlock control line gather answer message bytes 13 control line gather answer message (0 ∷ 0 ∷ 0 ∷ 0 ∷ [])
  unfolding joining.too_small
  block_answer h = block_unread refusal.Room (blocks.block_13 (simp (lt-ltb (length answer) joining.hub_answer_size h)))

  module _ (a : joining.hub_answer_size ≤ length answer) where
    block_message : length message < message_size → HubHearsBlock control line gather answer message bytes 13 control line gather answer message (0 ∷ 0 ∷ 0 ∷ 0 ∷ [])
    unfolding joining.too_small
    block_message h = block_unread refusal.Room (blocks.block_13 (simp (le-ltb (length answer) joining.hub_answer_size a, lt-ltb (length message) message_size h)))

    module _ (m : message_size ≤ length message) where
      pub block_long : block_size < length bytes → HubHearsBlock control line gather answer message bytes 15 control line gather answer message (0 ∷ 0 ∷ 0 ∷ 0 ∷ [])
      unfolding joining.too_small
      block_long h = block_unread refusal.Long (blocks.block_15 (simp (le-ltb (length answer) joining.hub_answer_size a, le-ltb (length message) message_size m)) h)

pub block_reads : {control line gather answer message bytes control' line' gather' answer' message' values : List ℕ} {r : ℕ} → 29 ≤ length control →
    HubTakesBlock control line gather answer message bytes r control' line' gather' answer' message' values → HubHearsBlock control line gather answer message bytes r control' line' gather' answer' message' values
block_reads c k = record { asks = asks_enough (more c none) k }

pub block_small : {control line gather answer message bytes : List ℕ} →
    (length control < 29) ⊎ (((29 ≤ length control) × (length answer < joining.hub_answer_size)) ⊎ ((29 ≤ length control) × (joining.hub_answer_size ≤ length answer) × (length message < message_size))) →
    HubHearsBlock control line gather answer message bytes 13 control line gather answer message (0 ∷ 0 ∷ 0 ∷ 0 ∷ [])
block_small (inl h) = block_13 (here h)
block_small (inr (inl h)) = block_answer h.0 h.1
block_small (inr (inr h)) = block_message h.0 h.1 h.2

-- ---- the sender

module _ {control buffer room message buffer' room' values : List ℕ} {code : ℕ} {s : Sender} {sent : Sending} {refused : Bool} (c : sender_control_size ≤ length control) (l : 257 ≤ length room)
    (before-is : SenderIn control s) (starts : sending.Starts s buffer room code message sent buffer' room') (values_are : StartValues sent.outcome values)
    (is-refused : OutcomeRefused sent.outcome refused) where
  start_leaves : {control' : List ℕ} {r : ℕ} → KeptUnless (is_refused sent.outcome) sender_in sender_bytes sent.sender control control' → OutcomeNumber sent.outcome r →
      SenderStarts control buffer room code message r control' buffer' room' values
  start_leaves kept told =
      record { asks = asks_enough (more c (more l none)) (record { sent = sent; starts = rw before-is.is at starts; begins = begins values_are told; kept = kept }) }

  pub sender_refuses : {r : ℕ} → refused ≡ true → OutcomeNumber sent.outcome r → SenderStarts control buffer room code message r control buffer' room' values
  sender_refuses e told =
      let f = sym is-refused.is ∙ e in
      start_leaves (alone f before-is.is (refused_named sent.outcome f (λ x q. (refusing.start_refuses starts q).control_same))) told

  pub sender_starts : {control' : List ℕ} {r : ℕ} → refused ≡ false → PutsSender sent.sender control control' → OutcomeNumber sent.outcome r →
      SenderStarts control buffer room code message r control' buffer' room' values
  sender_starts e put told = start_leaves (put_back (sym is-refused.is ∙ e) (sender_kept put)) told

pub sender_waits : {control : List ℕ} {s : Sender} {out : Bool} {r : ℕ} → sender_control_size ≤ length control → SenderIn control s → sending.Waits s out → r ≡ waits_number out →
    SenderWaits control r
sender_waits {out = out} c before-is waits e = record { asks = asks_enough (more c none) (record { out = out; waits = rw before-is.is at waits; told = e }) }

pub sender_hears_lem : {control buffer room control' room' : List ℕ} {n r value : ℕ} {s : Sender} {h : Heard} {sent : Sending} →
    sender_control_size ≤ length control →
    257 ≤ length room →
    SenderIn control s →
    HeardOf n h →
    sending.Hears s buffer room h sent room' →
    PutsSender sent.sender control control' →
    OutcomeValue sent.outcome value →
    OutcomeNumber sent.outcome r →
    SenderHears control buffer room n r control' room' value
sender_hears_lem {sent = sent} c l before-is heard hears put value told =
    record { asks = asks_enough (more c (more l none)) (record { sent = sent; hears = rw (before-is.is, heard.is) at hears; brings = brings value told; kept = sender_kept put }) }

-- ---- the reader

module _ {control message copy bytes message' copy' values : List ℕ} {code : ℕ} {before : Reader} {started : Started} {refused : Bool} (c : reader_control_size ≤ length control) (l : 257 ≤ length copy)
    (before-is : ReaderIn control before) (starts : reading.Starts before message copy code bytes started message' copy') (values_are : StartValues started.outcome values)
    (is-refused : OutcomeRefused started.outcome refused) where
  reader_start_leaves : {control' : List ℕ} {r : ℕ} → KeptUnless (is_refused started.outcome) reader_in reader_bytes started.reader control control' →
      OutcomeNumber started.outcome r → ReaderStarts control message copy code bytes r control' message' copy' values
  reader_start_leaves kept told =
      record { asks = asks_enough (more c (more l none)) (record { started = started; starts = rw before-is.is at starts; begins = begins values_are told; kept = kept }) }

  pub reader_refuses : {r : ℕ} → refused ≡ true → OutcomeNumber started.outcome r → ReaderStarts control message copy code bytes r control message' copy' values
  reader_refuses e told =
      let f = sym is-refused.is ∙ e in
      reader_start_leaves (alone f before-is.is (refused_named started.outcome f (λ x q. (reader-refusing.start_refuses starts q).control_same))) told

  pub reader_starts : {control' : List ℕ} {r : ℕ} → refused ≡ false → PutsReader started.reader control control' → OutcomeNumber started.outcome r →
      ReaderStarts control message copy code bytes r control' message' copy' values
  reader_starts e put told = reader_start_leaves (put_back (sym is-refused.is ∙ e) (reader_kept put)) told

pub reader_times_out : {control message copy control' copy' : List ℕ} {r value : ℕ} {before : Reader} {started : Started} →
    reader_control_size ≤ length control →
    257 ≤ length copy →
    ReaderIn control before →
    reading.TimesOut before message copy started copy' →
    PutsReader started.reader control control' →
    OutcomeValue started.outcome value →
    OutcomeNumber started.outcome r →
    ReaderTimesOut control message copy r control' copy' value
reader_times_out {started = started} c l before-is times put value told =
    record { asks = asks_enough (more c (more l none)) (record { started = started; times = rw before-is.is at times; brings = brings value told; kept = reader_kept put }) }

pub reader_13 : {control line answers message answer copy : List ℕ} {n : ℕ} → Lacking (at_least reader_control_size control ∷ at_least 25 answer ∷ at_least 257 copy ∷ []) →
    ReaderHears control line answers message answer copy n 13 control line answers answer copy (0 ∷ 0 ∷ 0 ∷ 0 ∷ 0 ∷ 0 ∷ [])
reader_13 k = record { asks = asks_13 k (refl, refl, refl, refl, refl, refl, refl) }

module _ {control line answers message answer copy : List ℕ} {n : ℕ} (c : reader_control_size ≤ length control) (a : 25 ≤ length answer) (l : 257 ≤ length copy) where
  pub reader_none : 257 < n → ReaderHears control line answers message answer copy n 0 control line answers answer copy (0 ∷ 0 ∷ 0 ∷ 0 ∷ 0 ∷ 0 ∷ [])
  reader_none m = record { asks = asks_enough (more c (more a (more l none))) (passed (no_event m) (refl, refl, refl, refl, refl, refl, refl)) }

  pub reader_hears_lem : {control' line' answers' answer' copy' values : List ℕ} {r : ℕ} {before : Reader} {e : Event} {taken : Commanded} {changed : Bool} →
      n ≤ 257 →
      ReaderIn control before →
      EventOf n e →
      reading.Hears before line answers message answer copy e taken line' answers' answer' copy' →
      PermanentChanged control taken.reader changed →
      PutsReader taken.reader control control' →
      ReaderValues taken.told taken.answer taken.outcome changed values →
      ReaderNumber taken.told taken.outcome r →
      ReaderHears control line answers message answer copy n r control' line' answers' answer' copy' values
  reader_hears_lem {taken = taken} m before-is event hears changes put values told =
      record {
        asks =
            asks_enough (more c (more a (more l none)))
            (taken_by (is_event_lem m)
            (record {
              taken = taken;
              hears = rw (before-is.is, event.is) at hears;
              told = told.is;
              values_are = values.is ∙ rw changes.is refl;
              kept = reader_kept put;
            }));
      }

pub reader_locked : {control : List ℕ} {number value : ℕ} {held : Bool} {before : Reader} → reader_control_size ≤ length control → ReaderIn control before →
    settings.Locked before.device.table number held → value ≡ flag_byte held → ReaderLocked control number 0 value
reader_locked {held = held} c before-is locked value =
    record { asks = asks_enough (more c none) (record { held = held; locked = rw before-is.is at locked; value_is = value; told = refl }) }

pub reader_switches : {control values : List ℕ} {before : Reader} → reader_control_size ≤ length control → ReaderIn control before → Switches before.device values →
    ReaderSwitches control 0 values
reader_switches c before-is switches = record { asks = asks_enough (more c none) (refl, switches.is ∙ rw before-is.is refl) }

-- ---- the saved set

pub reader_saves : {control room room' : List ℕ} {r size : ℕ} {made : Result ℕ Refusal} {before : Reader} → reader_control_size ≤ length control → ReaderIn control before →
    saved.Saves before.device.table room made room' → packet.SizeOf made size → ResultNumber made 101 r → ReaderSaves control room r room' size
reader_saves {made = made} c before-is saves size told =
    record { asks = asks_enough (more c none) (record { made = made; saves = rw before-is.is at saves; told = told.is; value = size.is }) }

pub settled_number_lem : (o : Settled) (taken : ℕ) → result_number (changed_of o) taken ≡ settled_number o taken
unfolding changed_of
settled_number_lem (done v) taken = refl
settled_number_lem (unsettled x) taken = refl

pub load_13 : {control form : List ℕ} {read : Result Table Refusal} {r : ℕ} → Lacking (at_least reader_control_size control ∷ []) → saved.Loads form read → ResultNumber read 13 r →
    ReaderLoads control form r control
load_13 {form = form} k loads told =
    record { asks = asks_13 k (told.is ∙ (rw loads.is (settled_number_lem (read_form edition1 form) 13)), refl) }

module _ {control form : List ℕ} {before : Reader} (c : reader_control_size ≤ length control) (before-is : ReaderIn control before) where
  pub reader_unread : {x : Refusal} {r : ℕ} → reading.Loads before form (Err x) → RefusalNumber x r → ReaderLoads control form r control
  reader_unread {x} loads told =
      record {
        asks =
            asks_enough (more c none)
            (record {
              loaded = Err x;
              loads = rw before-is.is at loads;
              told = told.is;
              kept = alone refl refl refl;
            });
      }

  pub reader_loads : {next : Reader} {control' : List ℕ} → reading.Loads before form (Ok next) → PutsReader next control control' → ReaderLoads control form 0 control'
  reader_loads {next} loads put =
      record {
        asks =
            asks_enough (more c none)
            (record {
              loaded = Ok next;
              loads = rw before-is.is at loads;
              told = refl;
              kept = put_back refl (reader_kept put);
            });
      }
