-- Blocks, however the bytes are cut into calls, do what the bytes do one by one. Assumes nothing.
use Prim.Native.Nat.{ℕ, ◌-◌, ◌≤◌, ◌<◌}
use mathlib.Core.Path.{◌≡◌, refl, sym, ap, ◌∙◌}
use mathlib.Core.Bool.{Bool, true, false}
use mathlib.Core.List.{List, [], ◌∷◌, ◌++◌, map, map-append, append_assoc, append-nil}
use native.Mathlib.Omega.{arith}
use lib.Dec.{ltb}
use lib.ListN.{length, take, drop, length-take, length-map, take-append-drop}
use lib.Seq.{take-take}
use borrow.Author.Tests.{lt-ltb, le-ltb, ltb-true, ltb-false}
use Rattle.words.specs.Lists.{either, over}
use Rattle.words.specs.Machine.{Done, after, through, given, reach}
use Rattle.words.proofs.Lists.{never, take_over}
use Rattle.words.proofs.Machine.{through_append, through_one, reach_one, reach_stopped, reach_most}
use Rattle.packet.specs.Opcodes.{host}
use Rattle.packet.specs.Refusals.{number_of, nak_bytes}
use Rattle.packet.specs.Sizes.{message_size}
use Rattle.packet.specs.declared.Refusal.{Refusal}
use Rattle.packet.specs.declared.Refusal.TheVariants as refusal
use Rattle.framer.specs.Framer.{deaf, framer_step, at_byte}
use Rattle.framer.specs.Behind.{framed}
use Rattle.framer.specs.declared.Event.{Event}
use Rattle.framer.specs.declared.Event.TheVariants.{Byte}
use Rattle.hub.specs.Joiner.{Joiner, Output, handed, answered, refusing, bytes_of, type_in, piece_in, barring}
use Rattle.hub.specs.Hub.{HubState, cleared, hub_step}
use Rattle.hub.specs.Promises.{told_of, answer_of, message_of, state_of, hub_answer_size, too_small, Hears}
use Rattle.hub.specs.Block.{all_of, answers_of, hands_out, names_of, last_of, name_of, leaves, too_long, taken_of, block_told_of, HubAt, state_at, hear_step, Block, HearsBlock}
use Rattle.hub.specs.Cuts.{Message, handed_by, messages_of, message_in, OneByOne, none, one, InBlocks, call, Brings}
use Rattle.hub.specs.declared.Hub.{Hub}
use Rattle.hub.specs.declared.Told.{Told}
use Rattle.hub.specs.declared.Told.TheVariants as told
use Rattle.hub.specs.declared.Taken.{Taken}
use Rattle.hub.proofs.Blocks.{all_append, answers_append, names_append, name_append, name_refused, hands_append, message_append, told_once, heard_at, left_append}
use Rattle.hub.proofs.Outcomes.{Outcome, nothing, plain, bars, again, more, whole, event_happens, event_line}

-- ---- what is told of two runs in a row

messages_append : (xs ys : List Output) → messages_of (xs ++ ys) ≡ messages_of xs ++ messages_of ys
messages_append = all_append handed_by

-- Nothing that a block would name.
pub record Nameless (os : List Output) : Type 0 where
  pub messages : messages_of os ≡ []
  pub first : message_of os ≡ []
  pub names : names_of os ≡ []
  pub hands : hands_out os ≡ false

nameless_name : {os : List Output} (t : Told) → Nameless os → name_of t os ≡ t
unfolding last_of
nameless_name t n = ap (last_of t) n.names

-- What a block tells by name comes at its end.
pub data Ends : List Output → Type 0 where
  unnamed : {os : List Output} → Nameless os → Ends os
  with_message : {os : List Output} (code : ℕ) (bytes answer : List ℕ) → Nameless os → Ends (os ++ (handed code bytes ∷ answered answer ∷ []))
  with_turned : {os : List Output} (x : Refusal) → number_of x < 3 → Nameless os → Ends (os ++ refusing x)

nameless_append : {xs ys : List Output} → Nameless xs → Nameless ys → Nameless (xs ++ ys)
nameless_append {xs} {ys} p q =
    record {
      messages = messages_append xs ys ∙ rw (p.messages, q.messages) refl;
      first = message_append xs ys p.hands ∙ q.first;
      names = names_append xs ys ∙ rw (p.names, q.names) refl;
      hands = hands_append xs ys p.hands ∙ q.hands;
    }

-- ---- what one event names

data Wording : List Output → Type 0 where
  says_nothing : {os : List Output} → Nameless os → Wording os
  says_message : (code : ℕ) (bytes answer : List ℕ) → Wording (handed code bytes ∷ answered answer ∷ [])
  says_turned : (x : Refusal) → number_of x < 3 → Wording (refusing x)

given_nameless : (b : List ℕ) → Nameless (given answered b)
unfolding given all_of message_of last_of hands_out
given_nameless [] = record { messages = refl; first = refl; names = refl; hands = refl }
given_nameless (x ∷ xs) = record { messages = refl; first = refl; names = refl; hands = refl }

refusing_by : (x : Refusal) (d : Bool) → ltb (number_of x) 3 ≡ d → Wording (refusing x)
unfolding all_of message_of last_of hands_out
refusing_by x true e = says_turned x (ltb-true (number_of x) 3 e)
refusing_by x false e =
    let g = given_nameless (nak_bytes host x) in
    says_nothing {os = refusing x}
    (record {
      messages = g.messages;
      first = g.first;
      names = simp e g.names;
      hands = g.hands;
    })

wording : {least : ℕ} {j : Joiner} {body : List ℕ} {d : Done Joiner Output} → Outcome least j body d → Wording d.told
unfolding barring all_of message_of last_of hands_out
wording nothing = says_nothing (record { messages = refl; first = refl; names = refl; hands = refl })
wording (plain {x = x} l m c) = refusing_by x (ltb (number_of x) 3) refl
wording (bars l) = refusing_by refusal.Barred (ltb 10 3) refl
wording (again b) = says_nothing (record { messages = refl; first = refl; names = refl; hands = refl })
wording (more b m) = says_nothing (record { messages = refl; first = refl; names = refl; hands = refl })
wording (whole b m) = says_message _ _ _

event_wording : (s : HubState) (e : Event) → Wording (hub_step s e).told
unfolding hub_step framed
event_wording s e = wording (event_happens s e).outcome

-- ---- what a block names

-- A deaf hub tells nothing of bytes.
deaf_run : (bs : List ℕ) (s : HubState) → s.line ≡ deaf → (through hub_step s (map Byte bs)).told ≡ []
unfolding through after hub_step cleared framed framer_step at_byte
deaf_run [] s e = refl
deaf_run (b ∷ bs) s e = rw e (deaf_run bs (record { line = deaf; core = s.core }) refl)

-- Behind a refusal by 1 or 2 the hub is deaf.
turned_deaf : (s : HubState) (b : ℕ) (x : Refusal) → (hub_step s (Byte b)).told ≡ refusing x → number_of x < 3 → (hub_step s (Byte b)).next.line ≡ deaf
unfolding hub_step cleared framed
turned_deaf s b x e l = event_line s (Byte b) e ∙ simp (lt-ltb (number_of x) 3 l)

ends_by : {before ts rest : List Output} → Nameless before → Wording ts → (Nameless ts → Ends ((before ++ ts) ++ rest)) → (hands_out ts ≡ true → rest ≡ []) →
    ((x : Refusal) → ts ≡ refusing x → number_of x < 3 → rest ≡ []) → Ends (before ++ (ts ++ rest))
unfolding hands_out
ends_by {before} {ts} {rest} n (says_nothing k) f g h = rw (← append_assoc before ts rest) (f k)
ends_by n (says_message code bytes answer) f g h = rw (g refl) (with_message code bytes answer n)
ends_by n (says_turned x l) f g h = rw (h x refl l, append-nil (refusing x)) (with_turned x l n)

-- So much of these bytes is taken where these things were told before.
abbrev reached : ℕ → HubState → List Output → List ℕ → ℕ
reached room s before bytes = reach hub_step (leaves room) s before (map Byte bytes)

left_here : (room : ℕ) (before ts : List Output) → hands_out before ≡ false → hands_out ts ≡ true → leaves room (before ++ ts) ≡ true
unfolding leaves
left_here room before ts e h = simp (hands_append before ts e ∙ h)

module _ (room : ℕ) (s : HubState) (before : List Output) (b : ℕ) (bs : List ℕ) (n : Nameless before)
    (further : (more : List Output) → Nameless more →
    Ends (more ++ (through hub_step (hub_step s (Byte b)).next (map Byte (take (reached room (hub_step s (Byte b)).next more bs) bs))).told)) where
  ends_with : (d : Bool) → leaves room before ≡ d → Ends (before ++ (through hub_step s (map Byte (take (reached room s before (b ∷ bs)) (b ∷ bs)))).told)
  unfolding through after
  ends_with true e = rw (reach_stopped hub_step (leaves room) s before (map Byte (b ∷ bs)) e, append-nil before) (unnamed n)
  ends_with false e =
      let next = (hub_step s (Byte b)).next in
      let ts = (hub_step s (Byte b)).told in
      rw (reach_one hub_step (leaves room) s before (Byte b) (map Byte bs) e)
      (ends_by n (event_wording s (Byte b)) (λ k. further (before ++ ts) (nameless_append n k))
      (λ h. rw (reach_stopped hub_step (leaves room) next (before ++ ts) (map Byte bs) (left_here room before ts n.hands h)) refl)
      (λ x q l. deaf_run (take (reached room next (before ++ ts) bs) bs) next (turned_deaf s b x q l)))

run_ends : (room : ℕ) (s : HubState) (before : List Output) (bytes : List ℕ) → Nameless before → Ends (before ++ (through hub_step s (map Byte (take (reached room s before bytes) bytes))).told)
unfolding through reach
run_ends room s before [] n = rw (append-nil before) (unnamed n)
run_ends room s before (b ∷ bs) n =
    ends_with room s before b bs n (λ more k. run_ends room (hub_step s (Byte b)).next more bs k) (leaves room before) refl

nameless_nil : Nameless []
unfolding all_of message_of last_of hands_out
nameless_nil = record { messages = refl; first = refl; names = refl; hands = refl }

-- At most one name,
ends_once : {os : List Output} → Ends os → length (names_of os) ≤ 1
unfolding all_of
ends_once (unnamed n) = rw n.names (omega arith)
ends_once (with_message {os} code bytes answer n) = rw (names_append os (handed code bytes ∷ answered answer ∷ []), n.names) (omega arith)
ends_once (with_turned {os} x l n) =
    let g = given_nameless (nak_bytes host x) in
    rw (names_append os (refusing x), n.names) (simp (lt-ltb (number_of x) 3 l, g.names) (omega arith))

-- and the message that the room then holds is the only one of the run.
ends_message : {os : List Output} (room : List ℕ) → Ends os → message_in (name_of told.Nothing os) (over (message_of os) room) ≡ messages_of os
unfolding all_of message_of last_of
ends_message room (unnamed n) = rw (nameless_name told.Nothing n, n.messages) refl
ends_message room (with_message {os} code bytes answer n) =
    let ts : List Output = handed code bytes ∷ answered answer ∷ [] in
    let name : name_of told.Nothing (os ++ ts) ≡ told.Message code (length bytes) = name_append told.Nothing os ts ∙ ap (λ (t : Told). name_of t ts) (nameless_name told.Nothing n) in
    let all : messages_of (os ++ ts) ≡ record { code = code; bytes = bytes } ∷ [] = messages_append os ts ∙ ap (λ (ms : List Message). ms ++ messages_of ts) n.messages in
    ap (λ (t : Told). message_in t (over (message_of (os ++ ts)) room)) name
    ∙ (ap (λ (l : List ℕ). record { code = code; bytes = take (length bytes) (over l room) } ∷ []) (message_append os ts n.hands)
    ∙ (ap (λ (l : List ℕ). record { code = code; bytes = l } ∷ []) (take_over bytes room (length bytes) refl) ∙ sym all))
ends_message room (with_turned {os} x l n) =
    let g = given_nameless (nak_bytes host x) in
    let name : name_of told.Nothing (os ++ refusing x) ≡ told.Refused x =
    name_append told.Nothing os (refusing x) ∙ (ap (λ (t : Told). name_of t (refusing x)) (nameless_name told.Nothing n) ∙ (name_refused told.Nothing x (given answered (nak_bytes host x)) ∙ (ap (λ (t : Told). name_of t (given answered (nak_bytes host x))) (simp (lt-ltb (number_of x) 3 l)) ∙ nameless_name (told.Refused x) g))) in
    let all : messages_of (os ++ refusing x) ≡ [] = messages_append os (refusing x) ∙ rw n.messages g.messages in
    ap (λ (t : Told). message_in t (over (message_of (os ++ refusing x)) room)) name ∙ sym all

-- ---- a call

room_first : (answer message : List ℕ) → too_small answer message ≡ false → leaves (length answer) [] ≡ false
unfolding too_small leaves hands_out all_of
room_first answer message e = by (ltb (length answer) hub_answer_size) refl e
  where
    by : (d : Bool) → ltb (length answer) hub_answer_size ≡ d → either d (ltb (length message) message_size) ≡ false → ltb (length answer - 0) hub_answer_size ≡ false
    by true p q = never (cc)
    by false p q = let l = ltb-false (length answer) hub_answer_size p in le-ltb (length answer - 0) hub_answer_size (omega arith)

reach_some : (room : ℕ) (s : HubState) (bytes : List ℕ) → leaves room [] ≡ false → (length bytes ≡ 0 → ⊥) → 1 ≤ reached room s [] bytes
reach_some room s [] e some = absurd (some refl)
reach_some room s (b ∷ bs) e some = let h = reach_one hub_step (leaves room) s [] (Byte b) (map Byte bs) e in omega arith

-- What a call names of its bytes: at most one thing.
module _ {hub : Hub} {line gather answer message bytes line' gather' answer' message' : List ℕ} {r : Block} (k : HearsBlock hub line gather answer message bytes r line' gather' answer' message')
    (small : too_small answer message ≡ false) (long : too_long bytes ≡ false) where
  taken_is : r.taken ≡ reach hub_step (leaves (length answer)) (state_of hub line gather) [] (map Byte bytes)
  unfolding taken_of
  taken_is = k.taken_is ∙ simp (small, long)

  block_ends : Ends (through hub_step (state_of hub line gather) (map Byte (take r.taken bytes))).told
  block_ends = rw taken_is (run_ends (length answer) (state_of hub line gather) [] bytes nameless_nil)

  pub one_name : length (names_of (through hub_step (state_of hub line gather) (map Byte (take r.taken bytes))).told) ≤ 1
  one_name = ends_once block_ends

  -- The caller finds its message, and its answers.
  block_message : message_in r.told message' ≡ messages_of (through hub_step (state_of hub line gather) (map Byte (take r.taken bytes))).told
  unfolding block_told_of
  block_message =
      let named : r.told ≡ name_of told.Nothing (through hub_step (state_of hub line gather) (map Byte (take r.taken bytes))).told = k.told_is ∙ simp (small, long) in
      ap (λ (t : Told). message_in t message') named
      ∙ (ap (message_in (name_of told.Nothing (through hub_step (state_of hub line gather) (map Byte (take r.taken bytes))).told)) k.takes.message_is ∙ ends_message message block_ends)

  block_answers : take r.answer answer' ≡ answers_of (through hub_step (state_of hub line gather) (map Byte (take r.taken bytes))).told
  block_answers = ap (take r.answer) k.takes.answer_is ∙ take_over (answers_of (through hub_step (state_of hub line gather) (map Byte (take r.taken bytes))).told) answer r.answer k.takes.size_is

  pub takes_few : r.taken ≤ length bytes
  takes_few = let m = reach_most hub_step (leaves (length answer)) (state_of hub line gather) [] (map Byte bytes) in let e = taken_is in let l = length-map bytes Byte in omega arith

  -- Where there is a byte it takes one.
  pub takes_one : (length bytes ≡ 0 → ⊥) → 1 ≤ r.taken
  takes_one some = let e = taken_is in let h = reach_some (length answer) (state_of hub line gather) bytes (room_first answer message small) some in omega arith

-- ---- one by one, and in blocks

one_message : {least : ℕ} {j : Joiner} {body : List ℕ} {d : Done Joiner Output} (room : List ℕ) → Outcome least j body d → message_in (told_of d.told) (over (message_of d.told) room) ≡ messages_of d.told
unfolding barring told_of all_of message_of
one_message room nothing = refl
one_message room (plain {x = x} l m c) = sym (given_nameless (nak_bytes host x)).messages
one_message room (bars l) = sym (given_nameless (nak_bytes host refusal.Barred)).messages
one_message room (again b) = refl
one_message room (more b m) = refl
one_message {j = j} {body} room (whole b m) =
    let bytes = bytes_of j.gathered ++ piece_in body in
    ap (λ (l : List ℕ). record { code = type_in body; bytes = l } ∷ []) (take_over bytes room (length bytes) refl)

event_message : (s : HubState) (e : Event) (room : List ℕ) → message_in (told_of (hub_step s e).told) (over (message_of (hub_step s e).told) room) ≡ messages_of (hub_step s e).told
unfolding hub_step framed
event_message s e room = one_message room (event_happens s e).outcome

-- Events and then others.
brings_more : {h h₁ h' : HubAt} {es fs : List Event} {ms ns : List Message} {p q : List ℕ} → Brings h es h₁ ms p → Brings h₁ fs h' ns q → Brings h (es ++ fs) h' (ms ++ ns) (p ++ q)
unfolding after
brings_more {h} {h₁} {h'} {es} {fs} {ms} {ns} {p} {q} a b =
    let run = through_append hub_step (state_at h) es fs in
    let first = through hub_step (state_at h) es in
    let told : (through hub_step (state_at h) (es ++ fs)).told ≡ first.told ++ (through hub_step (state_at h₁) fs).told = ap (λ (d : Done HubState Output). d.told) run ∙ rw a.state refl in
    record {
      left = b.left ∙ (rw a.left refl ∙ sym (left_append h es fs));
      state = b.state ∙ (rw a.state refl ∙ sym (ap (λ (d : Done HubState Output). d.next) run));
      messages = rw (told, a.messages, b.messages) (sym (messages_append first.told (through hub_step (state_at h₁) fs).told));
      answers = rw (told, a.answers, b.answers) (sym (answers_append first.told (through hub_step (state_at h₁) fs).told));
    }

brings_none : {h : HubAt} → Brings h [] h [] []
unfolding through all_of
brings_none = record { left = refl; state = refl; messages = refl; answers = refl }

brings_one : {hub : Hub} {line gather answer message line₁ gather₁ answer₁ message₁ : List ℕ} {e : Event} {r : Taken} → too_small answer message ≡ false →
    Hears hub line gather answer message e r line₁ gather₁ answer₁ message₁ →
    Brings (record { hub = hub; line = line; gather = gather }) (e ∷ []) (record { hub = r.hub; line = line₁; gather = gather₁ }) (message_in r.told message₁) (take r.answer answer₁)
brings_one {hub} {line} {gather} {answer} {message} {e = e} {r} small k =
    let w = heard_at small k in
    let S = state_of hub line gather in
    let ts = (hub_step S e).told in
    let run = through_one hub_step S e in
    record {
      left = sym (ap (λ (d : Done HubAt Output). d.next) (through_one hear_step (record { hub = hub; line = line; gather = gather }) e) ∙ w.left);
      state = sym (ap (λ (d : Done HubState Output). d.next) run ∙ w.next);
      messages = rw (run, w.told_is, w.message_is) (event_message S e message);
      answers = rw (run, w.answer_is) (take_over (answer_of ts) answer r.answer w.size_is ∙ sym (told_once S e).answers);
    }

pub one_by_one : {h h' : HubAt} {es : List Event} {ms : List Message} {out : List ℕ} → OneByOne h es h' ms out → Brings h es h' ms out
one_by_one none = brings_none
one_by_one (one small k rest) = brings_more (brings_one small k) (one_by_one rest)

-- A call that was not refused brings what as many single events bring.
pub block_brings : {hub : Hub} {line gather answer message bytes line₁ gather₁ answer₁ message₁ : List ℕ} {r : Block} → too_small answer message ≡ false → too_long bytes ≡ false →
    HearsBlock hub line gather answer message bytes r line₁ gather₁ answer₁ message₁ →
    Brings (record { hub = hub; line = line; gather = gather }) (map Byte (take r.taken bytes)) (record { hub = r.hub; line = line₁; gather = gather₁ }) (message_in r.told message₁) (take r.answer answer₁)
block_brings small long k = record { left = k.takes.left_is; state = k.takes.next; messages = block_message k small long; answers = block_answers k small long }

pub in_blocks : {h h' : HubAt} {bytes : List ℕ} {ms : List Message} {out : List ℕ} → InBlocks h bytes h' ms out → Brings h (map Byte bytes) h' ms out
in_blocks none = brings_none
in_blocks (call {bytes = bytes} {r = r} n small long k rest) =
    let few = takes_few k small long in
    let size = length-take n bytes in
    let same : take r.taken (take n bytes) ≡ take r.taken bytes = take-take r.taken n bytes (omega arith) in
    let all : map Byte bytes ≡ map Byte (take r.taken bytes) ++ map Byte (drop r.taken bytes) =
    ap (map Byte) (sym (take-append-drop r.taken bytes)) ∙ map-append Byte (take r.taken bytes) (drop r.taken bytes) in
    rw all (brings_more (rw same at (block_brings small long k)) (in_blocks rest))

-- ---- the theorems

brings_unique : {h h₁ h₂ : HubAt} {es : List Event} {ms₁ ms₂ : List Message} {out₁ out₂ : List ℕ} → Brings h es h₁ ms₁ out₁ → Brings h es h₂ ms₂ out₂ → (h₁ ≡ h₂) × (ms₁ ≡ ms₂) × (out₁ ≡ out₂)
brings_unique p q = (p.left ∙ sym q.left, p.messages ∙ sym q.messages, p.answers ∙ sym q.answers)

-- Any two ways of cutting agree: control value and buffers, messages, joined answers.
pub cuts_agree : {h h₁ h₂ : HubAt} {bytes : List ℕ} {ms₁ ms₂ : List Message} {out₁ out₂ : List ℕ} → InBlocks h bytes h₁ ms₁ out₁ → InBlocks h bytes h₂ ms₂ out₂ →
    (h₁ ≡ h₂) × (ms₁ ≡ ms₂) × (out₁ ≡ out₂)
cuts_agree p q = brings_unique (in_blocks p) (in_blocks q)

-- And they agree with the bytes one by one.
pub blocks_as_events : {h h₁ h₂ : HubAt} {bytes : List ℕ} {ms₁ ms₂ : List Message} {out₁ out₂ : List ℕ} → InBlocks h bytes h₁ ms₁ out₁ → OneByOne h (map Byte bytes) h₂ ms₂ out₂ →
    (h₁ ≡ h₂) × (ms₁ ≡ ms₂) × (out₁ ≡ out₂)
blocks_as_events p q = brings_unique (in_blocks p) (one_by_one q)

-- What one call leaves is what as many single events leave; their answers stand in its room one after the other, and the rest of it stays.
pub block_as_events : {hub : Hub} {line gather answer message bytes line₁ gather₁ answer₁ message₁ : List ℕ} {r : Block} {h : HubAt} {ms : List Message} {out : List ℕ} →
    too_small answer message ≡ false → too_long bytes ≡ false → HearsBlock hub line gather answer message bytes r line₁ gather₁ answer₁ message₁ →
    OneByOne (record { hub = hub; line = line; gather = gather }) (map Byte (take r.taken bytes)) h ms out →
    (◌≡◌ {A = HubAt} (record { hub = r.hub; line = line₁; gather = gather₁ }) h) × (message_in r.told message₁ ≡ ms) × (answer₁ ≡ over out answer)
block_as_events {answer = answer} small long k singles =
    let b = one_by_one singles in
    let u = brings_unique (block_brings small long k) b in
    (u.0, u.1, k.takes.answer_is ∙ ap (λ (l : List ℕ). over l answer) (sym b.answers))
