-- A block of bytes, from the promises of a single event and of bytes in silence: what is told of a run, and what loops over the bytes keep.
-- Assumes nothing.
use Prim.Native.Nat.{ℕ, suc, ◌+◌, ◌-◌, ◌≤◌, ◌<◌}
use mathlib.Core.Path.{◌≡◌, refl, sym, ap, ◌∙◌}
use mathlib.Core.Bool.{Bool, true, false}
use mathlib.Core.List.{List, [], ◌∷◌, ◌++◌, map, map-append, append_assoc, append-nil}
use native.Mathlib.Nat.{zero-add}
use native.Mathlib.Numerals.{add-one}
use native.Mathlib.Omega.{arith}
use lib.Dec.{eqb, ltb}
use lib.ListN.{length, get_or, take, drop, length-append, length-take, length-drop, length-map, take-append-drop, drop_of_length-le}
use lib.Seq.{length-take-le, take-add, take-suc, drop-cons, drop-drop}
use borrow.Author.Tests.{lt-ltb, le-ltb, ltb-true, ltb-false}
use Rattle.words.specs.Lists.{pick, either, over}
use Rattle.words.specs.Machine.{Done, after, through, given, reach}
use Rattle.words.proofs.Lists.{never, over_nil, length_over, rest_part, back, behind}
use Rattle.words.proofs.Machine.{through_append, through_one, reach_stopped, reach_one, reach_silent, append_none}
use Rattle.packet.specs.Opcodes.{host}
use Rattle.packet.specs.Packet.{body_of, seal, reply_body, reply_data}
use Rattle.packet.specs.Refusals.{number_of, cause_of, nak_bytes}
use Rattle.packet.specs.Sizes.{message_size}
use Rattle.packet.specs.declared.Refusal.{Refusal}
use Rattle.packet.specs.declared.Refusal.TheVariants as refusal
use Rattle.packet.specs.declared.Reply.TheVariants.{Ack, Nak}
use Rattle.framer.specs.Framer.{Heard, silent, framer_step}
use Rattle.framer.specs.Behind.{framed}
use Rattle.framer.specs.Halves.{line_in, listened_of, buffer_after, tells_nothing}
use Rattle.framer.specs.Silence.{LineAt, listen_step, TakesIn}
use Rattle.framer.specs.declared.Event.{Event}
use Rattle.framer.specs.declared.Event.TheVariants.{Byte}
use Rattle.framer.specs.declared.Halves.{Halves}
use Rattle.framer.specs.declared.TakenIn.{TakenIn}
use Rattle.framer.proofs.Behind.{framed_run}
use Rattle.hub.specs.Joiner.{Joiner, Output, added, repeated, handed, refused, answered, refusing, barring}
use Rattle.hub.specs.Hub.{HubState, heard_step, hub_step}
use Rattle.hub.specs.Promises.{told_of, answer_of, message_of, sound_of, joiner_of, state_of, accepts, control_after, hub_answer_size, too_small, Hears}
use Rattle.hub.specs.Block.{block_size, all_of, sent_by, answers_of, hands_out, named_by, names_of, last_of, name_of, leaves, too_long, taken_of, block_told_of, HubAt, state_at, hear_step, run_of, left_by, Block, TakesBytes, HearsBlock}
use Rattle.hub.specs.declared.Hub.{Hub}
use Rattle.hub.specs.declared.Told.{Told}
use Rattle.hub.specs.declared.Told.TheVariants as told
use Rattle.hub.specs.declared.Taken.{Taken}
use Rattle.hub.proofs.Control.{refusing_answers}
use Rattle.hub.proofs.Calm.{calm_bytes, calm_run}
use Rattle.hub.proofs.Joining.{gathered_over}
use Rattle.hub.proofs.Outcomes.{Outcome, nothing, plain, bars, again, more, whole, event_happens}

-- ---- what is told of two runs in a row

pub all_append : {A : Type 0} (brings : Output → List A) (xs ys : List Output) → all_of brings (xs ++ ys) ≡ all_of brings xs ++ all_of brings ys
unfolding all_of
all_append brings [] ys = refl
all_append {A} brings (x ∷ xs) ys = ap (λ (l : List A). brings x ++ l) (all_append brings xs ys) ∙ sym (append_assoc (brings x) (all_of brings xs) (all_of brings ys))

pub answers_append : (xs ys : List Output) → answers_of (xs ++ ys) ≡ answers_of xs ++ answers_of ys
answers_append = all_append sent_by

pub names_append : (xs ys : List Output) → names_of (xs ++ ys) ≡ names_of xs ++ names_of ys
names_append = all_append named_by

last_append : {A : Type 0} (a : A) (xs ys : List A) → last_of a (xs ++ ys) ≡ last_of (last_of a xs) ys
unfolding last_of
last_append a [] ys = refl
last_append a (x ∷ xs) ys = last_append x xs ys

pub name_append : (t : Told) (xs ys : List Output) → name_of t (xs ++ ys) ≡ name_of (name_of t xs) ys
name_append t xs ys = ap (last_of t) (names_append xs ys) ∙ last_append t (names_of xs) (names_of ys)

-- What is named behind one that was told, and was a name or not.
abbrev pub named_as : Told → Told → Told
named_as before told.Nothing = before
named_as before told.Added = before
named_as before told.Repeated = before
named_as before (told.Message code count) = told.Message code count
named_as before (told.Refused r) = pick (ltb (number_of r) 3) (told.Refused r) before

pub name_refused : (t : Told) (r : Refusal) (os : List Output) → name_of t (refused r ∷ os) ≡ name_of (named_as t (told.Refused r)) os
unfolding all_of last_of
name_refused t r os = by (ltb (number_of r) 3)
  where
    by : (d : Bool) → last_of t (pick d (told.Refused r ∷ []) [] ++ names_of os) ≡ last_of (pick d (told.Refused r) t) (names_of os)
    by true = refl
    by false = refl

-- Where no message was handed out before.
pub hands_append : (xs ys : List Output) → hands_out xs ≡ false → hands_out (xs ++ ys) ≡ hands_out ys
unfolding hands_out
hands_append [] ys e = refl
hands_append (added ∷ xs) ys e = hands_append xs ys e
hands_append (repeated ∷ xs) ys e = hands_append xs ys e
hands_append (handed code bytes ∷ xs) ys e = never (cc)
hands_append (refused r ∷ xs) ys e = hands_append xs ys e
hands_append (answered bytes ∷ xs) ys e = hands_append xs ys e

pub message_append : (xs ys : List Output) → hands_out xs ≡ false → message_of (xs ++ ys) ≡ message_of ys
unfolding hands_out message_of
message_append [] ys e = refl
message_append (added ∷ xs) ys e = message_append xs ys e
message_append (repeated ∷ xs) ys e = message_append xs ys e
message_append (handed code bytes ∷ xs) ys e = never (cc)
message_append (refused r ∷ xs) ys e = message_append xs ys e
message_append (answered bytes ∷ xs) ys e = message_append xs ys e

no_message : (xs : List Output) → hands_out xs ≡ false → message_of xs ≡ []
unfolding message_of
no_message xs e = ap message_of (sym (append-nil xs)) ∙ message_append xs [] e

-- ---- what is told of one event

answers_given : (b : List ℕ) → answers_of (given answered b) ≡ b
unfolding given all_of
answers_given [] = refl
answers_given (x ∷ xs) = append-nil (x ∷ xs)

name_given : (t : Told) (b : List ℕ) → name_of t (given answered b) ≡ t
unfolding given all_of last_of
name_given t [] = refl
name_given t (x ∷ xs) = refl

hands_given : (b : List ℕ) → hands_out (given answered b) ≡ false
unfolding given hands_out
hands_given [] = refl
hands_given (x ∷ xs) = refl

answer_given : (b : List ℕ) → answer_of (given answered b) ≡ b
unfolding given answer_of
answer_given [] = refl
answer_given (x ∷ xs) = refl

-- ---- what the loops over a block are made of

pub record Names (before t r : Told) : Type 0 where
  pub is : r ≡ named_as before t

-- Whether a block is left behind what was told of a byte, with so much room left.
abbrev pub leaves_at : Told → ℕ → Bool
leaves_at told.Nothing room = ltb room hub_answer_size
leaves_at told.Added room = ltb room hub_answer_size
leaves_at told.Repeated room = ltb room hub_answer_size
leaves_at (told.Message code count) room = true
leaves_at (told.Refused r) room = ltb room hub_answer_size

pub record Leaves (t : Told) (room : ℕ) (r : Bool) : Type 0 where
  pub is : r ≡ leaves_at t room

-- Bytes in silence: only the line has changed.
pub record Carried : Type 0 where
  pub hub : Hub
  pub count : ℕ

pub record Carries (hub : Hub) (line bytes : List ℕ) (r : Carried) (line' : List ℕ) : Type 0 where
  pub few : r.count ≤ length bytes
  pub left : (gather : List ℕ) → ◌≡◌ {A = HubAt} (left_by (record { hub = hub; line = line; gather = gather }) bytes r.count) (record { hub = r.hub; line = line'; gather = gather })
  pub run : (gather : List ℕ) →
      ◌≡◌ {A = Done HubState Output} (run_of (record { hub = hub; line = line; gather = gather }) bytes r.count) (record { next = state_of r.hub line' gather; told = [] })

-- A block that is not refused.
pub record Reads (hub : Hub) (line gather answer message bytes : List ℕ) (r : Block) (line' gather' answer' message' : List ℕ) : Type 0 where
  pub taken_is : r.taken ≡ reach hub_step (leaves (length answer)) (state_of hub line gather) [] (map Byte bytes)
  pub told_is : r.told ≡ name_of told.Nothing (run_of (record { hub = hub; line = line; gather = gather }) bytes r.taken).told
  pub takes : TakesBytes hub line gather answer message bytes r line' gather' answer' message'

-- An event is told by one name and answered once.
pub record Once (os : List Output) : Type 0 where
  pub answers : answers_of os ≡ answer_of os
  pub names : (t : Told) → name_of t os ≡ named_as t (told_of os)
  pub hands : (room : ℕ) → leaves_at (told_of os) room ≡ either (hands_out os) (ltb room hub_answer_size)

refused_once : (x : Refusal) → Once (refusing x)
unfolding all_of answer_of last_of hands_out told_of
refused_once x =
    record {
      answers = answers_given (nak_bytes host x) ∙ sym (answer_given (nak_bytes host x));
      names = λ t. name_refused t x (given answered (nak_bytes host x)) ∙ name_given (named_as t (told.Refused x)) (nak_bytes host x);
      hands = λ room. simp (hands_given (nak_bytes host x));
    }

once : {least : ℕ} {j : Joiner} {body : List ℕ} {d : Done Joiner Output} → Outcome least j body d → Once d.told
unfolding barring all_of answer_of last_of hands_out told_of
once nothing = record { answers = refl; names = λ t. refl; hands = λ room. refl }
once (plain {x = x} l m c) = refused_once x
once (bars l) = refused_once refusal.Barred
once (again b) = record { answers = append-nil (seal (reply_body host Ack)); names = λ t. refl; hands = λ room. refl }
once (more b m) = record { answers = append-nil (seal (reply_body host Ack)); names = λ t. refl; hands = λ room. refl }
once (whole b m) = record { answers = append-nil (seal (reply_body host Ack)); names = λ t. refl; hands = λ room. refl }

pub told_once : (s : HubState) (e : Event) → Once (hub_step s e).told
unfolding hub_step framed
told_once s e = once (event_happens s e).outcome

-- No answer is longer than its room.
nak_by : (x : Refusal) (d : Bool) → length (pick d [] (seal (reply_body host (Nak (cause_of x))))) ≤ hub_answer_size
unfolding seal reply_body body_of reply_data
nak_by x true = omega arith
nak_by x false = omega arith

nak_most : (x : Refusal) → length (nak_bytes host x) ≤ hub_answer_size
unfolding nak_bytes
nak_most x = nak_by x (eqb (cause_of x) 0)

ack_most : length (seal (reply_body host Ack)) ≤ hub_answer_size
unfolding seal reply_body body_of reply_data
ack_most = omega arith

answer_most : {least : ℕ} {j : Joiner} {body : List ℕ} {d : Done Joiner Output} → Outcome least j body d → length (answer_of d.told) ≤ hub_answer_size
unfolding barring answer_of
answer_most nothing = omega arith
answer_most (plain {x = x} l m c) = rw (refusing_answers x) (nak_most x)
answer_most (bars l) = rw (refusing_answers refusal.Barred) (nak_most refusal.Barred)
answer_most (again b) = ack_most
answer_most (more b m) = ack_most
answer_most (whole b m) = ack_most

event_most : (s : HubState) (e : Event) → length (answer_of (hub_step s e).told) ≤ hub_answer_size
unfolding hub_step framed
event_most s e = answer_most (event_happens s e).outcome

-- ---- bytes in silence

abbrev standing : Hub → List ℕ → List ℕ → HubAt
standing hub line gather = record { hub = hub; line = line; gather = gather }

-- A byte of which the framer tells nothing changes the line alone.
silent_step : (hub : Hub) (line gather : List ℕ) (b : ℕ) → (framer_step (line_in hub.line line) (Byte b)).told ≡ [] →
    (hear_step (standing hub line gather) (Byte b)).next
    ≡ standing (record { line = (listened_of hub.line line (Byte b)).halves; gathering = hub.gathering }) (buffer_after hub.line line (Byte b)) gather
unfolding hear_step framed state_of control_after tells_nothing silent through accepts told_of joiner_of
silent_step hub line gather b t =
    rw t (ap (standing (record { line = (listened_of hub.line line (Byte b)).halves; gathering = hub.gathering }) (buffer_after hub.line line (Byte b))) (gathered_over (sound_of hub.gathering) gather))

silent_run : (bs : List ℕ) (hub : Hub) (line gather : List ℕ) (h : Halves) (line' : List ℕ) →
    through listen_step (record { halves = hub.line; buffer = line }) (map Byte bs) ≡ record { next = record { halves = h; buffer = line' }; told = [] } →
    (through hear_step (standing hub line gather) (map Byte bs)).next ≡ standing (record { line = h; gathering = hub.gathering }) line' gather
unfolding through after listen_step
silent_run [] hub line gather h line' e =
    let n = ap (λ (d : Done LineAt Heard). d.next) e in
    rw (← ap (λ (l : LineAt). l.halves) n, ← ap (λ (l : LineAt). l.buffer) n) refl
silent_run (b ∷ bs) hub line gather h line' e =
    let next : LineAt = record { halves = (listened_of hub.line line (Byte b)).halves; buffer = buffer_after hub.line line (Byte b) } in
    let run = through listen_step next (map Byte bs) in
    let t = append_none {xs = (framer_step (line_in hub.line line) (Byte b)).told} {ys = run.told} (ap (λ (d : Done LineAt Heard). d.told) e) in
    let rest : run ≡ record { next = record { halves = h; buffer = line' }; told = [] } = rw (← ap (λ (d : Done LineAt Heard). d.next) e, ← t.1) refl in
    rw (silent_step hub line gather b t.0) (silent_run bs (record { line = next.halves; gathering = hub.gathering }) next.buffer gather h line' rest)

pub carries : {hub : Hub} {line bytes line' : List ℕ} {r : TakenIn} → TakesIn hub.line line bytes r line' →
    Carries hub line bytes (record { hub = record { line = r.halves; gathering = hub.gathering }; count = r.count }) line'
unfolding state_of joiner_of through
carries {hub} {line} {bytes} {line'} {r} k =
    record {
      few = k.few;
      left = λ gather. silent_run (take r.count bytes) hub line gather r.halves line' k.stands;
      run =
          λ gather.
          calm_run (state_of hub line gather) (calm_bytes (take r.count bytes))
          ∙ (framed_run heard_step (state_of hub line gather) (map Byte (take r.count bytes)) ∙ rw (k.line, k.kept) refl);
    }

-- ---- what the loops keep

-- The first `at` bytes were taken, and these things were told: what they left, and how far it goes from here.
pub record Reading (hub₀ : Hub) (line₀ gather₀ answer₀ message₀ bytes : List ℕ) (hub : Hub) (name : Told) (at out : ℕ) (line gather answer message : List ℕ) (os : List Output) : Type 0 where
  pub within : at ≤ length bytes
  pub left : left_by (standing hub₀ line₀ gather₀) bytes at ≡ standing hub line gather
  pub run : run_of (standing hub₀ line₀ gather₀) bytes at ≡ record { next = state_of hub line gather; told = os }
  pub far :
      reach hub_step (leaves (length answer₀)) (state_of hub₀ line₀ gather₀) [] (map Byte bytes)
      ≡ at + reach hub_step (leaves (length answer₀)) (state_of hub line gather) os (map Byte (drop at bytes))
  pub told_is : name ≡ name_of told.Nothing os
  pub out_is : out ≡ length (answers_of os)
  pub fits : out ≤ length answer₀
  pub answer_is : answer ≡ over (answers_of os) answer₀
  pub message_is : message ≡ over (message_of os) message₀

-- And it is not left here.
pub record Goes (hub₀ : Hub) (line₀ gather₀ answer₀ message₀ bytes : List ℕ) (hub : Hub) (name : Told) (at out : ℕ) (line gather answer message : List ℕ) : Type 0 where
  pub os : List Output
  pub reading : Reading hub₀ line₀ gather₀ answer₀ message₀ bytes hub name at out line gather answer message os
  pub stays : leaves (length answer₀) os ≡ false

-- What is told by a run that goes on: no message, and there is room for another answer.
module _ (room : ℕ) (os : List Output) where
  stays_by : (d : Bool) → hands_out os ≡ d → either d (ltb (room - length (answers_of os)) hub_answer_size) ≡ false → (hands_out os ≡ false) × (hub_answer_size ≤ room - length (answers_of os))
  stays_by true e q = never (cc)
  stays_by false e q = (e, ltb-false (room - length (answers_of os)) hub_answer_size q)

  stays_open : leaves room os ≡ false → (hands_out os ≡ false) × (hub_answer_size ≤ room - length (answers_of os))
  unfolding leaves
  stays_open q = stays_by (hands_out os) refl q

pub goes_first : {hub : Hub} {line gather answer message bytes : List ℕ} → hub_answer_size ≤ length answer → Goes hub line gather answer message bytes hub told.Nothing 0 0 line gather answer message
unfolding through leaves hands_out all_of last_of message_of
goes_first {hub} {line} {gather} {answer} {message} {bytes} h =
    record {
      os = [];
      reading =
          record {
            within = omega arith;
            left = refl;
            run = refl;
            far = sym (zero-add (reach hub_step (leaves (length answer)) (state_of hub line gather) [] (map Byte bytes)));
            told_is = refl;
            out_is = refl;
            fits = omega arith;
            answer_is = sym (over_nil answer);
            message_is = sym (over_nil message);
          };
      stays = simp (le-ltb (length answer - 0) hub_answer_size (omega arith));
    }

-- What a single event leaves and brings, in rooms of full size.
pub record HeardAt (hub : Hub) (line gather answer message : List ℕ) (e : Event) (r : Taken) (line' gather' answer' message' : List ℕ) : Type 0 where
  pub left : (hear_step (standing hub line gather) e).next ≡ standing r.hub line' gather'
  pub next : (hub_step (state_of hub line gather) e).next ≡ state_of r.hub line' gather'
  pub told_is : r.told ≡ told_of (hub_step (state_of hub line gather) e).told
  pub size_is : r.answer ≡ length (answer_of (hub_step (state_of hub line gather) e).told)
  pub answer_is : answer' ≡ over (answer_of (hub_step (state_of hub line gather) e).told) answer
  pub message_is : message' ≡ over (message_of (hub_step (state_of hub line gather) e).told) message

standing_is : {hub hub' : Hub} {line line' gather gather' : List ℕ} → hub ≡ hub' → line ≡ line' → gather ≡ gather' → standing hub line gather ≡ standing hub' line' gather'
standing_is p q r = rw (p, q, r) refl

pub heard_at : {hub : Hub} {line gather answer message line' gather' answer' message' : List ℕ} {e : Event} {r : Taken} → too_small answer message ≡ false →
    Hears hub line gather answer message e r line' gather' answer' message' → HeardAt hub line gather answer message e r line' gather' answer' message'
unfolding hear_step
heard_at small k =
    record {
      left = sym (standing_is (ap (λ (x : Taken). x.hub) k.is ∙ simp small) (k.line_is ∙ simp small) (k.gather_is ∙ simp small));
      next = sym (k.next ∙ simp small);
      told_is = ap (λ (x : Taken). x.told) k.is ∙ simp small;
      size_is = ap (λ (x : Taken). x.answer) k.is ∙ simp small;
      answer_is = k.answer_is ∙ simp small;
      message_is = k.message_is ∙ simp small;
    }

-- Events and then others.
pub left_append : (h : HubAt) (xs ys : List Event) → (through hear_step h (xs ++ ys)).next ≡ (through hear_step (through hear_step h xs).next ys).next
unfolding after
left_append h xs ys = ap (λ (d : Done HubAt Output). d.next) (through_append hear_step h xs ys)

module _ {hub₀ : Hub} {line₀ gather₀ answer₀ message₀ bytes : List ℕ} {hub : Hub} {name : Told} {at out : ℕ} {line gather answer message : List ℕ}
    (g : Goes hub₀ line₀ gather₀ answer₀ message₀ bytes hub name at out line gather answer message) where
  -- The answer room is as long as it was and has room for an answer; the message room is as it was.
  pub room_length : length answer ≡ length answer₀
  room_length =
      let r = g.reading in
      let e = r.out_is in
      let f = r.fits in
      ap length r.answer_is ∙ length_over (answers_of g.os) answer₀ (omega arith)

  pub room_open : hub_answer_size ≤ length answer - out
  room_open =
      let r = g.reading in
      let e = r.out_is in
      let l = room_length in
      let o = (stays_open (length answer₀) g.os g.stays).1 in
      omega arith

  pub no_message_yet : hands_out g.os ≡ false
  no_message_yet = (stays_open (length answer₀) g.os g.stays).0

  pub message_same : message ≡ message₀
  message_same =
      let r = g.reading in
      r.message_is ∙ (ap (λ (l : List ℕ). over l message₀) (no_message g.os (stays_open (length answer₀) g.os g.stays).0) ∙ over_nil message₀)

  -- Bytes in silence.
  pub goes_on_lem : {r : Carried} {line' : List ℕ} → Carries hub line (take (length bytes - at) (drop at bytes)) r line' →
      Goes hub₀ line₀ gather₀ answer₀ message₀ bytes r.hub name (at + r.count) out line' gather answer message
  unfolding after
  goes_on_lem {r} {line'} k =
      let n = g.reading in
      let rest = drop at bytes in
      let whole : take (length bytes - at) rest ≡ rest = rest_part at bytes in
      let few : r.count ≤ length rest = rw whole at k.few in
      let size = length-drop at bytes in
      let w = n.within in
      let H = standing hub₀ line₀ gather₀ in
      let front : List Event = map Byte (take at bytes) in
      let these : List Event = map Byte (take r.count rest) in
      let split : map Byte (take (at + r.count) bytes) ≡ front ++ these = ap (map Byte) (take-add at r.count bytes) ∙ map-append Byte (take at bytes) (take r.count rest) in
      let rests : map Byte rest ≡ these ++ map Byte (drop (at + r.count) bytes) =
      ap (map Byte) (sym (take-append-drop r.count rest)) ∙ (map-append Byte (take r.count rest) (drop r.count rest) ∙ ap (λ (l : List ℕ). these ++ map Byte l) (drop-drop r.count at bytes)) in
      let run : through hub_step (state_of hub line gather) these ≡ record { next = state_of r.hub line' gather; told = [] } = rw whole at (k.run gather) in
      let left : (through hear_step (standing hub line gather) these).next ≡ standing r.hub line' gather = rw whole at (k.left gather) in
      let grown : length these ≡ r.count = length-map (take r.count rest) Byte ∙ length-take-le r.count rest few in
      let more = reach_silent hub_step (leaves (length answer₀)) (state_of hub line gather) (state_of r.hub line' gather) g.os these (map Byte (drop (at + r.count) bytes)) g.stays run in
      let far = n.far in
      let here : reach hub_step (leaves (length answer₀)) (state_of hub line gather) g.os (map Byte rest) ≡ length these + reach hub_step (leaves (length answer₀)) (state_of r.hub line' gather) g.os (map Byte (drop (at + r.count) bytes)) =
      ap (reach hub_step (leaves (length answer₀)) (state_of hub line gather) g.os) rests ∙ more in
      record {
        os = g.os;
        reading =
            record {
              within = omega arith;
              left = ap (λ (es : List Event). (through hear_step H es).next) split ∙ (left_append H front these ∙ (ap (λ (h : HubAt). (through hear_step h these).next) n.left ∙ left));
              run = rw (split, through_append hub_step (state_at H) front these, n.run, run) (ap (λ (l : List Output). record { next = state_of r.hub line' gather; told = l }) (append-nil g.os));
              far = omega (arith, far, here, grown);
              told_is = n.told_is;
              out_is = n.out_is;
              fits = n.fits;
              answer_is = n.answer_is;
              message_is = n.message_is;
            };
        stays = g.stays;
      }

  -- A byte that is an event.
  module _ {r : Taken} {line' gather' part message' : List ℕ} (inside : at < length bytes) (full : message_size ≤ length message)
      (k : Hears hub line gather (take (length answer - out) (drop out answer)) message (Byte (get_or bytes at 0)) r line' gather' part message') where
    roomy : too_small (take (length answer - out) (drop out answer)) message ≡ false
    unfolding too_small
    roomy =
        let open-here = room_open in
        let long : length (take (length answer - out) (drop out answer)) ≡ length answer - out = simp (length-take, length-drop) (omega arith) in
        simp (le-ltb (length (take (length answer - out) (drop out answer))) hub_answer_size (omega arith), le-ltb (length message) message_size (omega arith))

    pub hears_one : {name' : Told} → Names name r.told name' →
        Reading hub₀ line₀ gather₀ answer₀ message₀ bytes r.hub name' (at + 1) (out + r.answer) line' gather' (back out part answer) message'
        (g.os ++ (hub_step (state_of hub line gather) (Byte (get_or bytes at 0))).told)
    unfolding after
    hears_one {name'} named =
        let n = g.reading in
        let S = state_of hub line gather in
        let b = get_or bytes at 0 in
        let ts = (hub_step S (Byte b)).told in
        let o = told_once S (Byte b) in
        let H = standing hub₀ line₀ gather₀ in
        let w = heard_at roomy k in
        let front : List Event = map Byte (take at bytes) in
        let size_is = w.size_is in
        let next = w.next in
        let split : map Byte (take (at + 1) bytes) ≡ front ++ (Byte b ∷ []) =
        ap (λ (n : ℕ). map Byte (take n bytes)) (add-one at) ∙ (ap (map Byte) (take-suc bytes at 0 inside) ∙ map-append Byte (take at bytes) (b ∷ [])) in
        let run : through hub_step S (Byte b ∷ []) ≡ record { next = state_of r.hub line' gather'; told = ts } =
        through_one hub_step S (Byte b) ∙ ap (λ (s : HubState). record { next = s; told = ts }) next in
        let far = n.far in
        let more : reach hub_step (leaves (length answer₀)) S g.os (map Byte (drop at bytes)) ≡ suc (reach hub_step (leaves (length answer₀)) (state_of r.hub line' gather') (g.os ++ ts) (map Byte (drop (at + 1) bytes))) =
        rw (drop-cons bytes at 0 inside, add-one at) (reach_one hub_step (leaves (length answer₀)) S g.os (Byte b) (map Byte (drop (suc at) bytes)) g.stays ∙ rw next refl) in
        let most = event_most S (Byte b) in
        let answers : answers_of (g.os ++ ts) ≡ answers_of g.os ++ answer_of ts = answers_append g.os ts ∙ ap (λ (l : List ℕ). answers_of g.os ++ l) o.answers in
        let size : length (answers_of (g.os ++ ts)) ≡ length (answers_of g.os) + length (answer_of ts) = ap length answers ∙ length-append (answers_of g.os) (answer_of ts) in
        let out_is = n.out_is in
        let long = room_length in
        let free = room_open in
        let quiet = (stays_open (length answer₀) g.os g.stays).0 in
        let within = n.within in
        record {
          within = omega arith;
          left = ap (λ (es : List Event). (through hear_step H es).next) split
              ∙ (left_append H front (Byte b ∷ [])
              ∙ (ap (λ (h : HubAt). (through hear_step h (Byte b ∷ [])).next) n.left
              ∙ (ap (λ (d : Done HubAt Output). d.next) (through_one hear_step (standing hub line gather) (Byte b)) ∙ w.left)));
          run = rw (split, through_append hub_step (state_at H) front (Byte b ∷ []), n.run, run) refl;
          far = omega (arith, far, more);
          told_is = named.is ∙ (ap (named_as name) w.told_is ∙ (sym (o.names name) ∙ (ap (λ (t : Told). name_of t ts) n.told_is ∙ sym (name_append told.Nothing g.os ts))));
          out_is = omega (arith, out_is, size_is, size);
          fits = omega (arith, out_is, size_is, most, free, long);
          answer_is =
              behind out (answers_of g.os) (answer_of ts) answer₀ answer part (sym out_is) (omega (arith, most, free, long, out_is)) n.answer_is w.answer_is
              ∙ ap (λ (l : List ℕ). over l answer₀) (sym answers);
          message_is = w.message_is ∙ (rw message_same refl ∙ ap (λ (l : List ℕ). over l message₀) (sym (message_append g.os ts quiet)));
        }

    -- Whether it is left there.
    pub leaves_here : {room : ℕ} {d : Bool} → room ≡ length answer - (out + r.answer) → Leaves r.told room d →
        d ≡ leaves (length answer₀) (g.os ++ (hub_step (state_of hub line gather) (Byte (get_or bytes at 0))).told)
    unfolding leaves
    leaves_here {room} {d} e l =
        let n = g.reading in
        let S = state_of hub line gather in
        let ts = (hub_step S (Byte (get_or bytes at 0))).told in
        let o = told_once S (Byte (get_or bytes at 0)) in
        let w = heard_at roomy k in
        let quiet = (stays_open (length answer₀) g.os g.stays).0 in
        let out_is = n.out_is in
        let size_is = w.size_is in
        let size : length (answers_of (g.os ++ ts)) ≡ length (answers_of g.os) + length (answer_of ts) =
        ap length (answers_append g.os ts ∙ ap (λ (l : List ℕ). answers_of g.os ++ l) o.answers) ∙ length-append (answers_of g.os) (answer_of ts) in
        let long = room_length in
        let free : room ≡ length answer₀ - length (answers_of (g.os ++ ts)) = omega (arith, e, out_is, size_is, size, long) in
        l.is ∙ (ap (λ (t : Told). leaves_at t room) w.told_is ∙ (o.hands room ∙ rw (hands_append g.os ts quiet, free) refl))

-- One turn: bytes in silence and then one that is an event; and whether it is left behind that.
pub record Turn (hub₀ : Hub) (line₀ gather₀ answer₀ message₀ bytes : List ℕ) (hub : Hub) (name : Told) (at out : ℕ) (line gather answer message : List ℕ) (d : Bool) : Type 0 where
  pub os : List Output
  pub reading : Reading hub₀ line₀ gather₀ answer₀ message₀ bytes hub name at out line gather answer message os
  pub leaving : d ≡ leaves (length answer₀) os

pub before_end : (a b : ℕ) → a ≤ b → (a ≡ b → ⊥) → a < b
before_end a b h f = by (ltb a b) refl
  where
    by : (d : Bool) → ltb a b ≡ d → a < b
    by true e = ltb-true a b e
    by false e = let l = ltb-false a b e in absurd (f (omega arith))

module _ {hub₀ : Hub} {line₀ gather₀ answer₀ message₀ bytes : List ℕ} {hub : Hub} {name : Told} {at out : ℕ} {line gather answer message line₁ line' gather' part message' : List ℕ} {c : Carried} {r : Taken}
    (g : Goes hub₀ line₀ gather₀ answer₀ message₀ bytes hub name at out line gather answer message) (k : Carries hub line (take (length bytes - at) (drop at bytes)) c line₁)
    (end : at + c.count ≡ length bytes → ⊥) (full : message_size ≤ length message)
    (h : Hears c.hub line₁ gather (take (length answer - out) (drop out answer)) message (Byte (get_or bytes (at + c.count) 0)) r line' gather' part message') where
  inside : at + c.count < length bytes
  inside = before_end (at + c.count) (length bytes) (goes_on_lem g k).reading.within end

  pub turns : {name' : Told} {room : ℕ} {d : Bool} → Names name r.told name' → room ≡ length answer - (out + r.answer) → Leaves r.told room d →
      Turn hub₀ line₀ gather₀ answer₀ message₀ bytes r.hub name' (at + c.count + 1) (out + r.answer) line' gather' (back out part answer) message' d
  turns named e leaving =
      let n = goes_on_lem g k in
      record { os = _; reading = hears_one n inside full h named; leaving = leaves_here n inside full h e leaving }

  -- The answer stands in the room, which is as long as it was.
  pub answer_fits : out + r.answer ≤ length answer
  answer_fits = let n = goes_on_lem g k in let f = (hears_one n inside full h (record { is = refl })).fits in let l = room_length n in omega arith

  pub answer_length : length (back out part answer) ≡ length answer
  answer_length =
      let n = goes_on_lem g k in
      let o = hears_one n inside full h (record { is = refl }) in
      let e = o.out_is in
      let f = o.fits in
      ap length o.answer_is ∙ (length_over _ answer₀ (omega arith) ∙ sym (room_length n))

pub goes_again : {hub₀ : Hub} {line₀ gather₀ answer₀ message₀ bytes : List ℕ} {hub : Hub} {name : Told} {at out : ℕ} {line gather answer message : List ℕ} {d : Bool} →
    Turn hub₀ line₀ gather₀ answer₀ message₀ bytes hub name at out line gather answer message d → d ≡ false → Goes hub₀ line₀ gather₀ answer₀ message₀ bytes hub name at out line gather answer message
goes_again t e = record { os = t.os; reading = t.reading; stays = sym t.leaving ∙ e }

-- ---- the ends

-- The reading is at its end.
module _ {hub₀ : Hub} {line₀ gather₀ answer₀ message₀ bytes : List ℕ} {hub : Hub} {name : Told} {at out : ℕ} {line gather answer message : List ℕ} {os : List Output}
    (n : Reading hub₀ line₀ gather₀ answer₀ message₀ bytes hub name at out line gather answer message os) where
  reads : reach hub_step (leaves (length answer₀)) (state_of hub line gather) os (map Byte (drop at bytes)) ≡ 0 →
      Reads hub₀ line₀ gather₀ answer₀ message₀ bytes (record { hub = hub; taken = at; told = name; answer = out }) line gather answer message
  reads e =
      let far = n.far in
      record {
        taken_is = omega (arith, far, e);
        told_is = n.told_is ∙ rw n.run refl;
        takes =
            record {
              size_is = n.out_is ∙ rw n.run refl;
              left_is = sym n.left;
              next = rw n.run refl;
              answer_is = n.answer_is ∙ rw n.run refl;
              message_is = n.message_is ∙ rw n.run refl;
            };
      }

  -- All bytes are taken,
  pub reads_all : length bytes ≤ at → Reads hub₀ line₀ gather₀ answer₀ message₀ bytes (record { hub = hub; taken = at; told = name; answer = out }) line gather answer message
  unfolding reach
  reads_all h = reads (rw (drop_of_length-le bytes h) refl)

  -- or it is left.
  reads_left : leaves (length answer₀) os ≡ true →
      Reads hub₀ line₀ gather₀ answer₀ message₀ bytes (record { hub = hub; taken = at; told = name; answer = out }) line gather answer message
  reads_left e = reads (reach_stopped hub_step (leaves (length answer₀)) (state_of hub line gather) os (map Byte (drop at bytes)) e)

pub reads_turn : {hub₀ : Hub} {line₀ gather₀ answer₀ message₀ bytes : List ℕ} {hub : Hub} {name : Told} {at out : ℕ} {line gather answer message : List ℕ} {d : Bool} →
    Turn hub₀ line₀ gather₀ answer₀ message₀ bytes hub name at out line gather answer message d → d ≡ true →
    Reads hub₀ line₀ gather₀ answer₀ message₀ bytes (record { hub = hub; taken = at; told = name; answer = out }) line gather answer message
reads_turn t e = reads_left t.reading (sym t.leaving ∙ e)

-- ---- the call

-- A refused block: nothing is taken, and nothing has changed.
abbrev pub refused_block : Hub → Refusal → Block
refused_block hub x = record { hub = hub; taken = 0; told = told.Refused x; answer = 0 }

takes_nothing : {hub : Hub} {line gather answer message bytes : List ℕ} (x : Refusal) → TakesBytes hub line gather answer message bytes (refused_block hub x) line gather answer message
unfolding through all_of message_of
takes_nothing {answer = answer} {message = message} x = record { size_is = refl; left_is = refl; next = refl; answer_is = sym (over_nil answer); message_is = sym (over_nil message) }

-- Number 13,
pub block_13 : {hub : Hub} {line gather answer message bytes : List ℕ} → too_small answer message ≡ true →
    HearsBlock hub line gather answer message bytes (refused_block hub refusal.Room) line gather answer message
unfolding taken_of block_told_of
block_13 t = record { taken_is = simp t; told_is = simp t; takes = takes_nothing refusal.Room }

-- then number 15.
pub block_15 : {hub : Hub} {line gather answer message bytes : List ℕ} → too_small answer message ≡ false → block_size < length bytes →
    HearsBlock hub line gather answer message bytes (refused_block hub refusal.Long) line gather answer message
unfolding taken_of block_told_of too_long
block_15 {bytes = bytes} t h = let l = lt-ltb block_size (length bytes) h in record { taken_is = simp (t, l); told_is = simp (t, l); takes = takes_nothing refusal.Long }

pub block_read : {hub : Hub} {line gather answer message bytes line' gather' answer' message' : List ℕ} {r : Block} → too_small answer message ≡ false → length bytes ≤ block_size →
    Reads hub line gather answer message bytes r line' gather' answer' message' → HearsBlock hub line gather answer message bytes r line' gather' answer' message'
unfolding taken_of block_told_of too_long
block_read {bytes = bytes} t h k =
    let l = le-ltb block_size (length bytes) h in
    record { taken_is = simp (t, l) k.taken_is; told_is = simp (t, l) k.told_is; takes = k.takes }
