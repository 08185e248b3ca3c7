-- The theorems over the hub's definitions: gaps, refusals, the bar, repeats, good packets, and the 4,096 bytes. Assumes nothing.
use Prim.Native.Nat.{ℕ, ◌+◌, ◌≤◌, ◌<◌}
use mathlib.Core.Path.{◌≡◌, refl, ap, ◌∙◌}
use mathlib.Core.Bool.{true, false}
use mathlib.Core.List.{List, [], ◌∷◌}
use native.Mathlib.Omega.{arith}
use lib.ListN.{length, get_or}
use borrow.Author.Tests.{eq-eqb, ne_eqb, le-ltb}
use Rattle.words.specs.Lists.{Bytes, Each}
use Rattle.words.specs.Machine.{Done, through}
use Rattle.words.proofs.Lists.{bytes_cons, same_refl}
use Rattle.words.proofs.Machine.{through_one, each_all, run_keeps}
use Rattle.packet.specs.Opcodes.{host, reader, decode_data}
use Rattle.packet.specs.Packet.{body_of, seal, data_in, status_allowed, unmarked, resent_equal, is_answer, reply_body}
use Rattle.packet.specs.Refusals.{number_of, cause_of, nak_bytes}
use Rattle.packet.specs.Sizes.{message_size}
use Rattle.packet.specs.declared.Refusal.{Refusal}
use Rattle.packet.specs.declared.Refusal.TheVariants.{Barred}
use Rattle.packet.specs.declared.Reply.TheVariants.{Ack, Nak}
use Rattle.packet.proofs.Theorems.{Body, body_of_lem, data_of}
use Rattle.packet.proofs.Judge.{status_piece}
use Rattle.framer.specs.Framer.{hearing, packet, framer_step}
use Rattle.framer.specs.Behind.{framed}
use Rattle.framer.specs.declared.Event.{Event}
use Rattle.framer.specs.declared.Event.TheVariants.{Byte, CharacterGap, MessageGap}
use Rattle.framer.proofs.Behind.{framed_run}
use Rattle.framer.proofs.Theorems.{packet_found, bytes_of as eventsOf}
use Rattle.hub.specs.Joiner.{none, Joiner, Output, repeated, handed, acknowledged, refusing, bytes_of, type_in, piece_in, other_type, join_step, adding, joined, barring}
use Rattle.hub.specs.Hub.{HubState, switched_on, after_refusal, decode_step, packet_step, heard_step, cleared, hub_step}
use Rattle.hub.specs.Promises.{told_of, answer_of, message_of, state_of}
use Rattle.hub.specs.declared.Hub.{Hub}
use Rattle.hub.specs.declared.Told.TheVariants as told
use Rattle.hub.proofs.Control.{refusing_answers, refusing_hands_out}
use Rattle.hub.proofs.Hearing.{few_joiner}
use Rattle.hub.proofs.Outcomes.{Refusing, named_refused, barred_still, kept, short, NotHanded, Short, event_happens, event_line}
use Rattle.hub.proofs.Calm.{calm_bytes, calm_run}

-- A hub with nothing begun.
abbrev pub idle : Joiner → HubState
idle j = record { line = hearing []; core = j }

-- ---- gaps

-- After a message gap every hub is as one just switched on.
pub gap_clears : (s : HubState) → (hub_step s MessageGap).next ≡ switched_on
unfolding hub_step cleared
gap_clears s = refl

-- Any other event clears nothing.
not_cleared : (e : Event) (s : HubState) → (e ≡ MessageGap → ⊥) → cleared e s ≡ s
unfolding cleared
not_cleared (Byte b) s h = refl
not_cleared CharacterGap s h = refl
not_cleared MessageGap s h = absurd (h refl)

-- ---- refusals

-- What a caller is told by name as a refusal is that one refusal and its NAK.
pub refusal_named : (s : HubState) (e : Event) {r : Refusal} → told_of (hub_step s e).told ≡ told.Refused r → (hub_step s e).told ≡ refusing r
unfolding hub_step framed
refusal_named s e q = (named_refused (event_happens s e).outcome q).told_is

module _ (s : HubState) (e : Event) {r : Refusal} (q : (hub_step s e).told ≡ refusing r) where
  pub happened : Refusing (event_happens s e).least s.core r (through heard_step s.core (framer_step s.line e).told)
  unfolding hub_step framed told_of
  happened = named_refused (event_happens s e).outcome (ap told_of q)

  -- A refusal changes just that; a message gap then clears the hub.
  pub refusal_changes : (hub_step s e).next ≡ cleared e (after_refusal r s)
  unfolding hub_step framed
  refusal_changes = rw (event_line s e q, happened.next_is) refl

  -- A refusal other than number 10 leaves the bar, the last accepted packet and what is gathered as they were.
  pub refusal_keeps : (number_of r ≡ 10 → ⊥) → (e ≡ MessageGap → ⊥) → (hub_step s e).next.core ≡ s.core
  refusal_keeps h g = rw (refusal_changes, not_cleared e (after_refusal r s) g) (simp (ne_eqb (number_of r) 10 h))

  -- Its number is one of those that are answered, so not 13.
  pub refusal_cause : cause_of r ≡ 0 → ⊥
  refusal_cause = happened.cause

  -- A refusal hands out no message.
  pub refusal_silent : message_of (hub_step s e).told ≡ []
  refusal_silent = rw q (refusing_hands_out r)

  -- A refusal is answered by the NAK of its cause.
  pub refusal_answered : answer_of (hub_step s e).told ≡ seal (reply_body host (Nak (cause_of r)))
  unfolding nak_bytes
  refusal_answered = rw q (refusing_answers r ∙ simp (ne_eqb (cause_of r) 0 happened.cause))

-- After number 10 nothing is gathered, the hub is barred, and the last accepted packet is as it was.
pub refusal_bars : (s : HubState) (e : Event) → (hub_step s e).told ≡ refusing Barred → (e ≡ MessageGap → ⊥) →
    (hub_step s e).next.core ≡ record { barred = true; last = s.core.last; gathered = none }
refusal_bars s e q g = rw (refusal_changes s e q, not_cleared e (after_refusal Barred s) g) refl

-- ---- DECODE_DATA that passes 4 to 7

-- Source, status, opcode and data length are right.
pub record Decodes (body : List ℕ) : Type 0 where
  pub opcode : get_or body 1 0 ≡ decode_data
  pub source : get_or body 2 0 ≡ reader
  pub status : status_allowed decode_data (get_or body 3 0) ≡ true
  pub some : length (data_in body) ≡ 0 → ⊥

-- Such a packet goes on to the joining.
pub decodes : (j : Joiner) {body : List ℕ} → Decodes body → packet_step j body ≡ join_step j body
unfolding packet_step decode_step is_answer
decodes j {body} k = simp (k.opcode, eq-eqb (get_or body 2 0) reader k.source, k.status, ne_eqb (length (data_in body)) 0 k.some)

-- A packet that the framer finds goes to the joiner.
pub packet_heard : (s : HubState) (e : Event) {body : List ℕ} → (framer_step s.line e).told ≡ packet body ∷ [] → (hub_step s e).told ≡ (packet_step s.core body).told
unfolding hub_step framed heard_step
packet_heard s e {body} q = rw (q, through_one heard_step s.core (packet body)) refl

-- ---- the bar

-- A barred hub refuses every such packet by number 10.
pub barred_refuses : (j : Joiner) {body : List ℕ} → j.barred ≡ true → Decodes body → packet_step j body ≡ barring j
unfolding join_step
barred_refuses j b k = decodes j k ∙ simp b

-- So the event that ends such a packet tells number 10 and its NAK, and nothing else.
pub barred_answers : (s : HubState) (e : Event) {body : List ℕ} → s.core.barred ≡ true → (framer_step s.line e).told ≡ packet body ∷ [] → Decodes body →
    (hub_step s e).told ≡ refusing Barred
unfolding barring
barred_answers s e b q k = packet_heard s e q ∙ ap (λ (d : Done Joiner Output). d.told) (barred_refuses s.core b k)

-- A barred hub stays barred until a message gap, and hands out nothing.
pub barred_stays : (s : HubState) (e : Event) → (e ≡ MessageGap → ⊥) → s.core.barred ≡ true → ((hub_step s e).next.core.barred ≡ true) × Each NotHanded (hub_step s e).told
unfolding hub_step framed
barred_stays s e g b =
    let k = barred_still (event_happens s e).outcome b in
    (rw (not_cleared e (framed heard_step s e).next g) k.0, k.1)

-- The same for any events without a message gap among them.
pub barred_run : (s : HubState) (es : List Event) → Each (λ (e : Event). e ≡ MessageGap → ⊥) es → s.core.barred ≡ true →
    ((through hub_step s es).next.core.barred ≡ true) × Each NotHanded (through hub_step s es).told
barred_run s es g b = run_keeps hub_step (λ (s : HubState). s.core.barred ≡ true) (λ (e : Event). e ≡ MessageGap → ⊥) NotHanded barred_stays s g b

-- ---- packets on the line

-- The bytes of a packet, fed one by one to a hub with nothing begun, bring the joiner's step on that packet and nothing else.
pub packet_run : (j : Joiner) (body : List ℕ) → Body body → through hub_step (idle j) (eventsOf (seal body)) ≡ record { next = idle (packet_step j body).next; told = (packet_step j body).told }
unfolding heard_step
packet_run j body k = calm_run (idle j) (calm_bytes (seal body)) ∙ (framed_run heard_step (idle j) (eventsOf (seal body)) ∙ rw (packet_found body k, through_one heard_step j (packet body)) refl)

-- ---- repeats, and what is no repeat

-- A resent equal of the last accepted packet is only acknowledged: nothing changes.
pub repeat_acknowledged : (j : Joiner) {body : List ℕ} → j.barred ≡ false → Decodes body → resent_equal j.last body ≡ true → packet_step j body ≡ record { next = j; told = acknowledged repeated }
unfolding join_step
repeat_acknowledged j b k e = decodes j k ∙ simp (b, e)

-- The same on the line, byte by byte.
pub repeat_run : (j : Joiner) (body : List ℕ) → Body body → j.barred ≡ false → Decodes body → resent_equal j.last body ≡ true →
    through hub_step (idle j) (eventsOf (seal body)) ≡ record { next = idle j; told = acknowledged repeated }
repeat_run j body w b k e = packet_run j body w ∙ rw (repeat_acknowledged j b k e) refl

-- Any other packet, marked or not, is taken like a new one.
pub other_taken : (j : Joiner) (body : List ℕ) → j.barred ≡ false → resent_equal j.last body ≡ false → join_step j body ≡ adding j body
unfolding join_step
other_taken j body b e = simp (b, e)

-- A piece of the same type that still fits is joined to what is gathered.
pub piece_joined : (j : Joiner) {body : List ℕ} → j.barred ≡ false → Decodes body → resent_equal j.last body ≡ false → other_type j.gathered (type_in body) ≡ false →
    length (bytes_of j.gathered) + length (piece_in body) ≤ message_size → packet_step j body ≡ joined j body
unfolding adding
piece_joined j {body} b k e t m = decodes j k ∙ (other_taken j body b e ∙ simp (t, le-ltb message_size (length (bytes_of j.gathered) + length (piece_in body)) m))

-- ---- good packets

pub piece_decodes : (t code : ℕ) (p : List ℕ) → t < 4 → Decodes (body_of decode_data reader t (code ∷ p))
unfolding body_of
piece_decodes t code p h = record { opcode = refl; source = refl; status = status_piece t h; some = λ z. omega (arith, ap length (data_of decode_data reader t (code ∷ p))) }

-- A message of one piece.
abbrev pub one_piece : ℕ → List ℕ → List ℕ
one_piece code p = body_of decode_data reader 0 (code ∷ p)

module _ (code : ℕ) (p : List ℕ) (few : length p ≤ 250) where
  -- A hub just switched on hands out the piece's bytes with its type, and it is the last accepted packet.
  pub good_packet : packet_step switched_on.core (one_piece code p) ≡ record { next = record { barred = false; last = one_piece code p; gathered = none }; told = acknowledged (handed code p) }
  unfolding resent_equal other_type type_in piece_in bytes_of joined unmarked body_of
  good_packet =
      let d = data_of decode_data reader 0 (code ∷ p) in
      piece_joined switched_on.core refl (piece_decodes 0 code p (omega arith)) refl refl (simp d (omega arith)) ∙ simp d

  module _ (c : code < 256) (b : Bytes p) where
    -- The same on the line, byte by byte.
    pub good_run : through hub_step switched_on (eventsOf (seal (one_piece code p)))
        ≡ record { next = idle (record { barred = false; last = one_piece code p; gathered = none }); told = acknowledged (handed code p) }
    good_run =
        packet_run switched_on.core (one_piece code p) (body_of_lem decode_data reader 0 (code ∷ p) (omega arith) (omega arith) (omega arith) (bytes_cons c b) (omega arith))
        ∙ rw good_packet refl

    -- The message room gets its bytes.
    pub good_message : message_of (through hub_step switched_on (eventsOf (seal (one_piece code p)))).told ≡ p
    unfolding message_of
    good_message = rw good_run refl

    -- Its answer is ACK.
    pub good_answered : answer_of (through hub_step switched_on (eventsOf (seal (one_piece code p)))).told ≡ seal (reply_body host Ack)
    unfolding answer_of
    good_answered = rw good_run refl

-- Its marked copy is then only acknowledged.
pub good_repeated : (code : ℕ) (p : List ℕ) (j : Joiner) → j.barred ≡ false → j.last ≡ one_piece code p →
    packet_step j (body_of decode_data reader 1 (code ∷ p)) ≡ record { next = j; told = acknowledged repeated }
unfolding resent_equal unmarked body_of
good_repeated code p j b e = repeat_acknowledged j b (piece_decodes 1 code p (omega arith)) (rw e (same_refl (one_piece code p)))

-- ---- at most 4,096 bytes

-- At most 4,096 bytes wait.
abbrev pub Few : HubState → Type 0
Few s = length (bytes_of s.core.gathered) ≤ message_size

few_cleared : (e : Event) (s : HubState) → Few s → Few (cleared e s)
unfolding cleared bytes_of
few_cleared (Byte b) s h = h
few_cleared CharacterGap s h = h
few_cleared MessageGap s h = omega arith

-- At most 4,096 bytes are ever gathered or handed out.
pub few_step : (s : HubState) (e : Event) → Few s → Few (hub_step s e).next × Each Short (hub_step s e).told
unfolding hub_step framed
few_step s e h = let k = (event_happens s e).outcome in (few_cleared e (framed heard_step s e).next (kept h k).few, short k)

-- The same for any events.
pub few_run : (s : HubState) (es : List Event) → Few s → Few (through hub_step s es).next × Each Short (through hub_step s es).told
few_run s es h = run_keeps hub_step Few (λ (e : Event). Unit {0}) Short (λ s e u f. few_step s e f) s (each_all (λ e. tt) es) h

-- Whatever control value a caller gives, it stands for no more.
pub few_control : (hub : Hub) (line gather : List ℕ) → length gather ≡ message_size → Few (state_of hub line gather)
unfolding state_of
few_control hub line gather h = few_joiner _ _ gather h
