-- The level of the whole reader: what the framer found goes to the sender or is judged, and control value and buffers stand for the next state.
-- Assumes nothing.
use Prim.Native.Nat.{ℕ, ◌≤◌, ◌<◌}
use mathlib.Core.Path.{◌≡◌, refl, sym, ap, ◌∙◌}
use mathlib.Core.Bool.{Bool, true, false}
use mathlib.Core.List.{List, [], ◌∷◌, ◌++◌, map}
use native.Mathlib.Omega.{arith}
use lib.Dec.{eqb}
use lib.ListN.{length, get_or, take, drop, take-append-drop, length-take}
use borrow.Author.Tests.{le-leb, le-ltb, lt-ltb}
use Rattle.words.specs.Lists.{pick, over}
use Rattle.words.specs.Machine.{Done, through, given}
use Rattle.words.proofs.Lists.{over_nil, over_take, take_over, never}
use Rattle.words.proofs.Machine.{through_one}
use Rattle.packet.specs.Opcodes as opcode
use Rattle.packet.specs.Opcodes.{host, param_send}
use Rattle.packet.specs.Packet.{body_of, seal, data_in, status_allowed, reply_data, reply_opcode, reply_body, unmarked, resent_equal, is_answer}
use Rattle.packet.specs.Promises.{IsAnswer}
use Rattle.packet.specs.Refusals.{nak_bytes}
use Rattle.packet.specs.Sizes.{body_size, packet_size}
use Rattle.packet.specs.declared.Refusal.{Refusal}
use Rattle.packet.specs.declared.Refusal.TheVariants as refusal
use Rattle.packet.specs.declared.Head.{Head}
use Rattle.packet.specs.declared.Reply.TheVariants as reply
use Rattle.packet.proofs.Writing.{length_seal, length_body}
use Rattle.packet.proofs.Marks.{length_unmarked, unmarked_pick}
use Rattle.framer.specs.Framer as line
use Rattle.framer.specs.Framer.{hearing, packet, refused as noPacket, silent, framer_step}
use Rattle.framer.specs.Behind.{framed}
use Rattle.framer.specs.Halves.{line_in, kept_in, received_in, accepted_of, tells_nothing, Listens, Received, Kept as Keeping}
use Rattle.framer.specs.declared.Event.{Event}
use Rattle.framer.specs.declared.Halves.{Halves}
use Rattle.framer.specs.declared.Listened.{Listened}
use Rattle.framer.specs.declared.Found.TheVariants as found
use Rattle.framer.proofs.TwoHalves.{line_listened, kept_listened, listened_nothing, listened_refused, listened_packet, line_behind, kept_behind, control_behind}
use Rattle.sender.specs.Sender.{SenderState, waits, Sent, sender_step}
use Rattle.sender.specs.Promises as sending
use Rattle.sender.specs.declared.Sender.{Sender}
use Rattle.table.specs.Rows.{pairs_size}
use Rattle.table.specs.Table.{answer_data}
use Rattle.table.proofs.Theorems.{answer_most}
use Rattle.commands.specs.Commands.{DeviceState, named_by, length_allowed, Acted, denied, acted, effect}
use Rattle.commands.specs.declared.Command.{Command}
use Rattle.std.proofs.Common.{Option, Some, None}
use Rattle.reader.specs.Reader.{CoreState, Output, refused, repeated, beeped, switched, answered, sent, reader_answer_size, handshake, if_handshake, request_bytes, refuses, no_packet_step, is_request, answer_to, acts, command_step, known_step, named_step, judged_step, sender_hears, packet_step, heard_step, reader_step}
use Rattle.reader.proofs.Answering.{kept_fits, widen}
use Rattle.reader.specs.Promises.{told_of, answer_of, sent_of, last_answer_of, sound_core, core_of, state_of, accepts, accepts_name, heeded, sender_after, core_after, reader_of, too_small, Steps, sender_through, control_after, Hears, NoRoom, Quiet, SoundCore, Leaves, Judges, ToSender, Settles, Receives}
use Rattle.reader.specs.declared.Core.{Core}
use Rattle.reader.specs.declared.Stepped.{Stepped}
use Rattle.reader.specs.declared.Reader.{Reader}
use Rattle.reader.specs.declared.Taken.{Taken}

-- ---- what a step keeps

-- The longest answer is a PARAM_SEND with all parameters.
answer_by : (a b : Bool) (d : List ℕ) → length d ≤ pairs_size → length (pick a (seal (body_of param_send opcode.reader 0 d)) (pick b (seal (reply_body opcode.reader reply.Ack)) [])) ≤ reader_answer_size
unfolding reply_body reply_opcode reply_data
answer_by true b d h = rw (length_seal (body_of param_send opcode.reader 0 d), length_body param_send opcode.reader 0 d) (omega arith)
answer_by false true d h = rw (length_seal (reply_body opcode.reader reply.Ack), length_body (reply_opcode reply.Ack) opcode.reader 0 []) (omega arith)
answer_by false false d h = omega arith

answer_few : (d : DeviceState) (k : Command) (carried : List ℕ) → length (answer_to d k carried) ≤ reader_answer_size
unfolding answer_to if_handshake request_bytes
answer_few d k carried = answer_by (is_request k) (handshake d) (answer_data d.values carried) (answer_most d.values carried)

accepts_done : (rows : List (List ℕ)) (d : DeviceState) (outs : List Output) → accepts (map beeped rows ++ (switched d ∷ outs)) ≡ true
unfolding accepts told_of
accepts_done [] d outs = refl
accepts_done (row ∷ rows) d outs = refl

accepts_sent : (xs : List Sent) → accepts (map sent xs) ≡ false
unfolding accepts told_of
accepts_sent [] = refl
accepts_sent (x ∷ xs) = refl

left_by_lem : (b : Bool) (c : CoreState) (x : Refusal) → accepts (pick b (record { next = c; told = refused x ∷ [] }) (refuses c x)).told ≡ false
unfolding accepts told_of
left_by_lem true c x = refl
left_by_lem false c x = refl

no_packet_left : (c : CoreState) (x : Refusal) → accepts (no_packet_step c x).told ≡ false
unfolding no_packet_step
no_packet_left c x = left_by_lem (waits c.sender) c x

-- A step of the core on a body: the answer that is kept fits its buffer, the last accepted packet is the body where it was accepted, and the sender's state.
record Kept (c : CoreState) (body : List ℕ) (sender : SenderState) (d : Done CoreState Output) : Type 0 where
  few : length d.next.last_answer ≤ reader_answer_size
  last_is : d.next.last ≡ pick (accepts d.told) (unmarked body) c.last
  sender_is : d.next.sender ≡ sender

kept_test : {c : CoreState} {body : List ℕ} {sender : SenderState} {d d' : Done CoreState Output} (b : Bool) → Kept c body sender d → Kept c body sender d' →
    Kept c body sender (pick b d d')
kept_test true k k' = k
kept_test false k k' = k'

module _ (c : CoreState) (body : List ℕ) (few : length c.last_answer ≤ reader_answer_size) where
  kept_still : (outs : List Output) → accepts outs ≡ false → Kept c body c.sender (record { next = c; told = outs })
  kept_still outs e = record { few = few; last_is = simp e; sender_is = refl }

  kept_refused : (x : Refusal) → Kept c body c.sender (refuses c x)
  unfolding accepts told_of
  kept_refused x =
      kept_still (refused x ∷ given answered (if_handshake c.device (nak_bytes opcode.reader x))) refl

  kept_no_packet : (x : Refusal) → Kept c body c.sender (no_packet_step c x)
  unfolding no_packet_step accepts told_of answer_of
  kept_no_packet x = kept_test (waits c.sender) (kept_still (refused x ∷ []) refl) (kept_refused x)

  kept_acts : (k : Command) (act : Acted) → Kept c body c.sender (acts c k body act)
  unfolding acts
  kept_acts k (denied x) = kept_refused x
  kept_acts k (acted d rows) =
      let bytes : List ℕ = answer_to c.device k (data_in body) in
      record { few = answer_few c.device k (data_in body); last_is = simp (accepts_done rows d (given answered bytes)); sender_is = refl }

  kept_named : (n : Option Command) → Kept c body c.sender (named_step n c body)
  unfolding named_step known_step command_step accepts told_of
  kept_named None = kept_refused refusal.Opcode
  kept_named (Some k) =
      kept_test (length_allowed k (data_in body))
      (kept_test (resent_equal c.last body) (kept_still (repeated ∷ given answered c.last_answer) refl)
      (kept_acts k (effect c.device k (get_or body 3 0) (data_in body))))
      (kept_refused refusal.Data)

  kept_judged : Kept c body c.sender (judged_step c body)
  unfolding judged_step
  kept_judged =
      kept_test (eqb (get_or body 2 0) host)
      (kept_test (status_allowed (get_or body 1 0) (get_or body 3 0)) (kept_named (named_by (get_or body 1 0))) (kept_refused refusal.Status))
      (kept_refused refusal.Source)

  packet_by : (a : Bool) (d : Done SenderState Sent) → Kept c body (pick a d.next c.sender) (pick a (sender_hears c d) (judged_step c body))
  unfolding sender_hears
  packet_by true d = record { few = few; last_is = simp (accepts_sent d.told); sender_is = refl }
  packet_by false d = kept_judged

  kept_packet : Kept c body (pick (is_answer (get_or body 1 0)) (sender_step c.sender (heeded body)).next c.sender) (packet_step c body)
  unfolding packet_step
  kept_packet = packet_by (is_answer (get_or body 1 0)) (sender_step c.sender (heeded body))

-- ---- `received`

module _ {h : Halves} {c : Core} {n : ℕ} {line body answers message answer copy : List ℕ} {a : Bool} {s : Stepped} {r : Taken}
    (received : Received h line n body) (p : IsAnswer (get_or body 1 0) a) (settles : Settles h n s r) where
  pub received_answer : {copy' : List ℕ} → c.last_answer ≤ length answers → a ≡ true → ToSender c body message copy s copy' →
      Receives h c n line answers message answer copy r answers answer copy'
  unfolding packet_step sender_after core_of
  received_answer few e k =
      record {
        stepped = s;
        steps = rw (← received.is) (simp (sym p.is ∙ e) (k.steps (kept_in h line) answers answer few));
        stands = rw (← received.is) (simp (sym p.is ∙ e) k.stands);
        settles = settles;
      }

  pub received_command : {last answers' answer' : List ℕ} → a ≡ false → Keeping h line last → Judges judged_step c body last answers answer s answers' answer' →
      Receives h c n line answers message answer copy r answers' answer' copy
  unfolding packet_step sender_after
  received_command e q k =
      record {
        stepped = s;
        steps = rw (← received.is, ← q.is) (simp (sym p.is ∙ e) (k.steps message copy));
        stands = rw (← received.is) (simp (sym p.is ∙ e));
        settles = settles;
      }

-- ---- one event

accepts_name_lem : (outs : List Output) → accepts_name (told_of outs) ≡ accepts outs
unfolding accepts
accepts_name_lem outs = refl

-- The core and the framer's step that a control value, the buffers and an event stand for.
abbrev core_at : Reader → List ℕ → List ℕ → List ℕ → CoreState
core_at reader buffer answers message = core_of (sound_core reader) (kept_in reader.line buffer) answers message

abbrev framer_at : Reader → List ℕ → Event → Done line.Line line.Heard
framer_at reader buffer e = framer_step (line_in reader.line buffer) e

-- What a control value and the answers' buffer stand for after a step of the core.
core_back : (d : Done CoreState Output) (s : Sender) (last answers message : List ℕ) → length d.next.last_answer ≤ reader_answer_size → sending.state_of s message ≡ d.next.sender →
    core_of (record { last_answer = last_answer_of (length d.next.last_answer); device = (core_after d s).device; sender = s }) last (over d.next.last_answer answers) message
    ≡ record { device = d.next.device; last = unmarked last; last_answer = d.next.last_answer; sender = d.next.sender }
unfolding core_of last_answer_of
core_back d s last answers message few e =
    simp (le-leb (length d.next.last_answer) reader_answer_size few, take_over d.next.last_answer answers (length d.next.last_answer) refl, e)

-- The answer that is kept fits its buffer.
few_kept : {reader : Reader} {c : Core} (line answers message : List ℕ) → SoundCore reader c → length (core_at reader line answers message).last_answer ≤ reader_answer_size
unfolding core_of
few_kept line answers message sound = let f = rw sound.is at sound.few in simp length-take (omega arith)

module _ {reader : Reader} {line : List ℕ} {e : Event} {l : Listened} {line' : List ℕ} (k : Listens reader.line line e l line')
    {answer copy : List ℕ} (a : reader_answer_size ≤ length answer) (b : packet_size ≤ length copy) where
  -- The core's step on what was told, d, with the control value and the buffers that it leaves.
  settled : {d : Done CoreState Output} {n : ℕ} {s : Sender} {st : Stepped} {r : Taken} {answers message answers' part copied : List ℕ} →
      silent (framer_at reader line e).told ≡ false →
      through heard_step (core_at reader line answers message) (framer_at reader line e).told ≡ d →
      sender_through reader.sender message (framer_at reader line e).told ≡ s →
      Kept (core_at reader line answers message) (received_in l.halves line' n) (sending.state_of s message) d →
      n ≤ body_size →
      (accepts d.told ≡ true → length (received_in l.halves line' n) ≡ n) →
      (accepts d.told ≡ true → (framer_at reader line e).next ≡ hearing []) →
      length (part ++ drop reader_answer_size answer) ≡ length answer →
      length (copied ++ drop packet_size copy) ≡ length copy →
      Steps d s answers (take reader_answer_size answer) (take packet_size copy) st answers' part copied →
      Settles l.halves n st r →
      Hears reader line answers message answer copy e r line' answers' (part ++ drop reader_answer_size answer) (copied ++ drop packet_size copy)
  unfolding too_small reader_step framed state_of control_after core_of tells_nothing
  settled {d} {n} {s} {st} {r} {answers} {message} tells t u kept h size idle wide all front settles =
      let steps = widen answer copy a b wide all front in
      let p = le-ltb (length answer) reader_answer_size a in
      let q = le-ltb (length copy) packet_size b in
      let yes = accepts d.told in
      let next : Reader = reader_of (pick yes (accepted_of l.halves n) l.halves) (core_after d s) in
      let reader-is : r.reader ≡ next =
      ap (λ (x : Taken). x.reader) settles.is ∙ rw (steps.told_is, accepts_name_lem d.told, steps.core_is) refl in
      let last_is : unmarked (kept_in next.line line') ≡ d.next.last =
      ap unmarked (kept_behind k yes n h) ∙ (unmarked_pick yes (received_in l.halves line' n) (kept_in reader.line line) ∙ sym kept.last_is) in
      let core = core_back d s (kept_in next.line line') answers message kept.few (sym kept.sender_is) in
      let long : yes ≡ true → length d.next.last ≡ n = λ z. rw (kept.last_is, z) (length_unmarked (received_in l.halves line' n) ∙ size z) in
      record {
        is = simp (p, q, tells)
            (settles.is
            ∙ rw (t, u, steps.told_is, accepts_name_lem d.told, steps.core_is, steps.count_is, steps.outcome_is, ← control_behind k yes n d.next.last long) refl);
        next = simp (p, q) (rw (reader-is, steps.answers_is, t, line_behind k yes n idle, core, last_is) refl);
        line_is = simp (p, q) k.buffer_is;
        answers_is = simp (p, q) (steps.answers_is ∙ ap (λ (x : Done CoreState Output). over x.next.last_answer answers) (sym t));
        answer_is = simp (p, q) (steps.answer_is ∙ ap (λ (x : Done CoreState Output). over (answer_of x.told) answer) (sym t));
        copy_is = simp (p, q) (steps.copy_is ∙ ap (λ (x : Done CoreState Output). over (sending.copy_of (sent_of x.told)) copy) (sym t));
      }

  -- The framer tells nothing.
  pub hear_quiet : {answers message front copied : List ℕ} {r : Taken} → front ≡ take reader_answer_size answer → copied ≡ take packet_size copy → l.found ≡ found.Nothing → Quiet reader l.halves r →
      Hears reader line answers message answer copy e r line' answers (front ++ drop reader_answer_size answer) (copied ++ drop packet_size copy)
  unfolding too_small reader_step framed state_of control_after core_of tells_nothing silent through sender_through accepts told_of answer_of sent_of sending.name_of sending.copy_of
  hear_quiet {answers} z y f quiet =
      let p = le-ltb (length answer) reader_answer_size a in
      let q = le-ltb (length copy) packet_size b in
      let t = listened_nothing k f in
      record {
        is = simp (p, q) (rw t (quiet.is ∙ rw k.is refl));
        next = simp (p, q) (rw (t, quiet.is, line_listened k, kept_listened k) refl);
        line_is = simp (p, q) k.buffer_is;
        answers_is = simp (p, q) (rw t (sym (over_take (last_answer_of reader.last_answer) answers)));
        answer_is = simp (p, q) (rw (t, z) (take-append-drop reader_answer_size answer ∙ sym (over_nil answer)));
        copy_is = simp (p, q) (rw (t, y) (take-append-drop packet_size copy ∙ sym (over_nil copy)));
      }

  -- What the framer does not let through, and what it finds, by the control value that is taken. The answer goes into the front of its room.
  module _ {c : Core} {answers message front part room : List ℕ} {r : Taken} (sound : SoundCore reader c) (f : front ≡ take reader_answer_size answer) (g : room ≡ take packet_size copy)
      (wide : length (part ++ drop reader_answer_size answer) ≡ length answer) where
    pub hear_refused : {st : Stepped} {x : Refusal} → length answers ≡ reader_answer_size → l.found ≡ found.Refused x → Leaves (λ (s : CoreState). no_packet_step s x) c front st part →
        Settles l.halves 0 st r → Hears reader line answers message answer copy e r line' answers (part ++ drop reader_answer_size answer) (room ++ drop packet_size copy)
    unfolding silent heard_step sender_through core_of
    hear_refused {x = x} m q leaves settles =
        rw g
        (settled {n = 0} {s = reader.sender}
        (rw (listened_refused k q) refl)
        (rw (listened_refused k q) (through_one heard_step (core_at reader line answers message) (noPacket x)))
        (rw (listened_refused k q) refl)
        (kept_no_packet (core_at reader line answers message) (received_in l.halves line' 0) (few_kept line answers message sound) x)
        (omega arith)
        (λ z. let y = no_packet_left (core_at reader line answers message) x in never (cc))
        (λ z. let y = no_packet_left (core_at reader line answers message) x in never (cc))
        wide
        (ap length (take-append-drop packet_size copy))
        (rw (sound.is, f, g) at (leaves.steps (kept_in reader.line line) answers message room (kept_fits answers sound.few m)))
        settles)

    pub hear_packet : {h : Head} {answers' copied : List ℕ} → length (copied ++ drop packet_size copy) ≡ length copy → l.found ≡ found.Packet h →
        Receives l.halves c h.length line' answers message front room r answers' part copied →
        Hears reader line answers message answer copy e r line' answers' (part ++ drop reader_answer_size answer) (copied ++ drop packet_size copy)
    unfolding silent heard_step sender_through core_of sender_after
    hear_packet {h} all q receives =
        let w = listened_packet k q in
        let body : List ℕ = received_in l.halves line' h.length in
        settled {s = sender_after reader.sender message body}
        (rw w.told_is refl)
        (rw w.told_is (through_one heard_step (core_at reader line answers message) (packet body)))
        (rw w.told_is refl)
        (rw (rw sound.is at receives.stands) (kept_packet (core_at reader line answers message) body (few_kept line answers message sound)))
        w.most
        (λ z. w.long)
        (λ z. w.idle)
        wide
        all
        (rw (sound.is, kept_listened k, f, g) at receives.steps)
        receives.settles

-- Number 13.
hear_small : {reader : Reader} {line answers message answer copy : List ℕ} {e : Event} {r : Taken} → too_small answer copy ≡ true → NoRoom reader r →
    Hears reader line answers message answer copy e r line answers answer copy
hear_small t k =
    record {
      is = k.is ∙ simp t;
      next = rw k.is (simp t);
      line_is = simp t;
      answers_is = simp t;
      answer_is = simp (t, over_nil);
      copy_is = simp (t, over_nil);
    }

pub hear_answer : {reader : Reader} {line answers message answer copy : List ℕ} {e : Event} {r : Taken} → length answer < reader_answer_size → NoRoom reader r →
    Hears reader line answers message answer copy e r line answers answer copy
unfolding too_small
hear_answer {answer = answer} h k = hear_small (simp (lt-ltb (length answer) reader_answer_size h)) k

pub hear_copy : {reader : Reader} {line answers message answer copy front : List ℕ} {e : Event} {r : Taken} → reader_answer_size ≤ length answer → front ≡ take reader_answer_size answer →
    length copy < packet_size → NoRoom reader r → Hears reader line answers message answer copy e r line answers (front ++ drop reader_answer_size answer) copy
unfolding too_small
hear_copy {answer = answer} {copy = copy} a same h k =
    rw (same, take-append-drop reader_answer_size answer)
    (hear_small (simp (le-ltb (length answer) reader_answer_size a, lt-ltb (length copy) packet_size h)) k)
