-- The theorems over the reader's definitions: refusals, accepted commands, resent equals, ACK and NAK, values. Assumes nothing.
use Prim.Native.Nat.{ℕ, ◌+◌, ◌/◌, ◌%◌, ◌≤◌}
use mathlib.Core.Path.{◌≡◌, refl, sym, ◌∙◌, ap}
use mathlib.Core.Bool.{Bool, true, false}
use mathlib.Core.List.{List, [], ◌∷◌, ◌++◌, map, append-nil}
use native.Mathlib.Omega.{arith}
use lib.Dec.{eqb, ltb, leb}
use lib.ListN.{get_or}
use borrow.Author.Tests.{le-ltb, le-leb, lt-leb, eq-eqb, ne_eqb}
use Rattle.words.specs.Lists.{pick, both, same_bytes}
use Rattle.words.specs.Machine.{Done, after, through, given}
use Rattle.words.proofs.Lists.{same_refl, never}
use Rattle.words.proofs.Machine.{through_one}
use Rattle.packet.specs.Opcodes.{host, reader}
use Rattle.packet.specs.Packet.{body_of, body_in, data_in, status_allowed, resent_equal, is_answer}
use Rattle.packet.proofs.Theorems.{data_of}
use Rattle.packet.specs.Refusals.{number_of, cause_of, nak_bytes}
use Rattle.packet.specs.declared.Refusal.{Refusal}
use Rattle.packet.specs.declared.Refusal.TheVariants as refusal
use Rattle.packet.proofs.Marks.{unmarked_of}
use Rattle.framer.specs.Framer.{Line, hearing, deaf, Heard, refused as noPacket, framer_step}
use Rattle.framer.specs.Behind.{framed}
use Rattle.framer.specs.declared.Event.{Event}
use Rattle.framer.proofs.Outcomes as framer
use Rattle.framer.proofs.Outcomes.{brings}
use Rattle.sender.specs.Sender.{SenderState, Sent, waits, gap_due, sender_step, heed_of}
use Rattle.sender.specs.Promises.{name_of}
use Rattle.sender.specs.declared.Outcome.TheVariants as outcome
use Rattle.sender.proofs.Theorems.{rests, heard_unrefused}
use Rattle.table.specs.Table.{Values}
use Rattle.commands.specs.Commands.{DeviceState, named_by, length_allowed, denied, acted, effect}
use Rattle.commands.specs.declared.Command.{Command}
use Rattle.std.proofs.Common.{Some}
use Rattle.commands.proofs.Outcomes.{Does}
use Rattle.commands.proofs.Theorems.{no_answer}
use Rattle.reader.specs.Reader.{CoreState, ReaderState, Output, refused, repeated, beeped, switched, sent, if_handshake, refusal_answer, refuses, no_packet_step, answer_to, acts, command_step, known_step, named_step, judged_step, sender_hears, packet_step, heard_step, reader_step, power_up_reader, answered}
use Rattle.reader.specs.Promises.{told_of, sent_of}
use Rattle.reader.specs.declared.Told.TheVariants as told
use Rattle.reader.proofs.Answering.{sent_answering, sent_sent}
use Rattle.reader.proofs.Judging.{done_sent}
use Rattle.reader.proofs.Outcomes.{Outcome, heeds, turns, repeats, acts_on, Happens, nothing, no_packet, packet_heard, packet_outcome, event_happens}

-- ---- refusals

-- What is told behind a refusal, and what it leaves of the core.
pub record Refuses (c : CoreState) (r : Refusal) (xs : List Output) (d : Done CoreState Output) : Type 0 where
  pub core_is : d.next ≡ c
  pub answer_is : xs ≡ given answered (refusal_answer c r)
  pub answered_by : cause_of r ≡ 0 → ⊥

-- A told list that starts with something else than a refusal starts with no refusal.
sent_first : (ss : List Sent) {r : Refusal} {xs : List Output} {A : Type 0} → map sent ss ≡ refused r ∷ xs → A
sent_first [] q = never (cc)
sent_first (x ∷ ss) q = never (cc)

acted_first : (rows : List (List ℕ)) (d : DeviceState) (ys : List Output) {r : Refusal} {xs : List Output} {A : Type 0} → map beeped rows ++ (switched d ∷ ys) ≡ refused r ∷ xs → A
acted_first [] d ys q = never (cc)
acted_first (row ∷ rows) d ys q = never (cc)

same_refusal : {c : CoreState} {y r : Refusal} {xs : List Output} (late : Bool) → both (leb (number_of y) 3) (waits c.sender) ≡ late → (cause_of y ≡ 0 → ⊥) →
    refused y ∷ given answered (pick late [] (if_handshake c.device (nak_bytes reader y))) ≡ refused r ∷ xs → {d : Done CoreState Output} → d.next ≡ c → Refuses c r xs d
unfolding refusal_answer
same_refusal {c} {y} {r} {xs} late l n q e =
    let f : y ≡ r = cc in
    let g : given answered (pick late [] (if_handshake c.device (nak_bytes reader y))) ≡ xs = cc in
    rw (← f) (record { core_is = e; answer_is = rw l (sym g); answered_by = n })

packet_refuses : {c : CoreState} {body : List ℕ} {d : Done CoreState Output} {r : Refusal} {xs : List Output} → Outcome c body d → d.told ≡ refused r ∷ xs →
    (4 ≤ number_of r) × Refuses c r xs d
unfolding sender_hears acts
packet_refuses {c} (heeds h) q = sent_first (sender_step c.sender h).told q
packet_refuses {c = c} {r = r} (turns {r = y} h n) q =
    let f : y ≡ r = cc in
    (rw (← f) h, same_refusal false (simp (lt-leb (number_of y) 3 (omega arith))) n q refl)
packet_refuses (repeats e) q = never (cc)
packet_refuses (acts_on k {next} {rows} d) q = acted_first rows next _ q

no_packet_refuses : (c : CoreState) (y : Refusal) {r : Refusal} {xs : List Output} (b : Bool) → waits c.sender ≡ b → number_of y ≤ 3 → (cause_of y ≡ 0 → ⊥) →
    (no_packet_step c y).told ≡ refused r ∷ xs → Refuses c r xs (no_packet_step c y)
unfolding no_packet_step given
no_packet_refuses c y true w h n q = simp w (same_refusal true (simp (le-leb (number_of y) 3 h, w)) n (simp w at q) refl)
no_packet_refuses c y false w h n q = simp w (same_refusal false (simp (le-leb (number_of y) 3 h, w)) n (simp w at q) refl)

happens_refuses : {c : CoreState} {d : Done CoreState Output} {r : Refusal} {xs : List Output} → Happens c d → d.told ≡ refused r ∷ xs → Refuses c r xs d
happens_refuses nothing q = never (cc)
happens_refuses {c} (no_packet y h n) q = no_packet_refuses c y (waits c.sender) refl h n q
happens_refuses (packet_heard body k) q = (packet_refuses k q).1

-- The line after a refusal.
first_by : (c : CoreState) (y : Refusal) {r : Refusal} {xs : List Output} (b : Bool) → waits c.sender ≡ b → (no_packet_step c y).told ≡ refused r ∷ xs → y ≡ r
unfolding no_packet_step
first_by c y true w q = let k = simp w at q in cc
first_by c y false w q = let k = simp w at q in cc

first : (c : CoreState) (y : Refusal) {r : Refusal} {xs : List Output} → (through heard_step c (noPacket y ∷ [])).told ≡ refused r ∷ xs → y ≡ r
unfolding heard_step
first c y q = first_by c y (waits c.sender) refl (rw (through_one heard_step c (noPacket y)) at q)

line_refused : (c : CoreState) {r : Refusal} {xs : List Output} {l : Line} {e : Event} {d : Done Line Heard} → framer.Brings l e d → (through heard_step c d.told).told ≡ refused r ∷ xs →
    d.next ≡ pick (ltb (number_of r) 3) deaf (hearing [])
unfolding through after heard_step
line_refused c framer.nothing q = never (cc)
line_refused c framer.cut q = rw (← (first c refusal.Cut q)) refl
line_refused c framer.low q = rw (← (first c refusal.Length q)) refl
line_refused c framer.wrong q = rw (← (first c refusal.Checksum q)) refl
line_refused c {r} (framer.whole {got} {b} f) q =
    let s : List ℕ = body_in (got ++ (b ∷ [])) in
    let k = (packet_refuses (packet_outcome c s) (sym (append-nil (packet_step c s).told) ∙ q)).0 in
    simp (le-ltb (number_of r) 3 (omega arith))

-- What is told by name as a refusal starts with it.
record First (r : Refusal) (os : List Output) : Type 0 where
  rest : List Output
  is : os ≡ refused r ∷ rest

named_first : (os : List Output) {r : Refusal} → told_of os ≡ told.Refused r → First r os
unfolding told_of
named_first [] q = never (cc)
named_first (refused y ∷ os) {r} q = let e : y ≡ r = cc in record { rest = os; is = rw e refl }
named_first (repeated ∷ os) q = never (cc)
named_first (beeped row ∷ os) q = never (cc)
named_first (switched d ∷ os) q = never (cc)
named_first (answered bytes ∷ os) q = never (cc)
named_first (sent y ∷ os) q = never (cc)

module _ (s : ReaderState) (e : Event) {r : Refusal} {xs : List Output} (q : (reader_step s e).told ≡ refused r ∷ xs) where
  happened : Refuses s.core r xs (through heard_step s.core (framer_step s.line e).told)
  unfolding reader_step framed
  happened = happens_refuses (event_happens s e) q

  -- A refusal leaves the parameters, the last accepted packet, its answer and the sender as they were. It ends the packet begun; 1 and 2 make
  -- the framer deaf.
  pub refusal_changes : (reader_step s e).next ≡ record { line = pick (ltb (number_of r) 3) deaf (hearing []); core = s.core }
  unfolding reader_step framed
  refusal_changes = rw (line_refused s.core (brings s.line e) q, happened.core_is) refl

  -- Its number is one of those that are answered, so not 13.
  pub refusal_cause : cause_of r ≡ 0 → ⊥
  refusal_cause = happened.answered_by

  -- It is answered by the NAK of its cause or not at all, and nothing else is told.
  pub refusal_answered : xs ≡ given answered (refusal_answer s.core r)
  refusal_answered = happened.answer_is

-- What a caller is told by name as a refusal is that refusal with its answer, and nothing else.
pub refusal_named : (s : ReaderState) (e : Event) {r : Refusal} → told_of (reader_step s e).told ≡ told.Refused r →
    (reader_step s e).told ≡ refused r ∷ given answered (refusal_answer s.core r)
refusal_named s e {r} q =
    let p = named_first (reader_step s e).told q in
    p.is ∙ ap (λ (xs : List Output). refused r ∷ xs) (refusal_answered s e p.is)

-- ---- the sender refuses nothing that it hears

packet_unrefused : {c : CoreState} {body : List ℕ} {d : Done CoreState Output} {x : Refusal} → Outcome c body d → name_of (sent_of d.told) ≡ outcome.Refused x → ⊥
unfolding sender_hears acts sent_of name_of
packet_unrefused {c} (heeds h) q = heard_unrefused c.sender h (rw (sent_sent (sender_step c.sender h).told) at q)
packet_unrefused {c} (turns {r} h n) q = let z = rw (sent_answering (if_handshake c.device (nak_bytes reader r))) at q in never (cc)
packet_unrefused {c} (repeats e) q = let z = rw (sent_answering c.last_answer) at q in never (cc)
packet_unrefused {c} {body} (acts_on k {next} {rows} d) q = let z = rw (done_sent rows next (answer_to c.device k (data_in body))) at q in never (cc)

no_packet_unrefused : (c : CoreState) (y : Refusal) {x : Refusal} (b : Bool) → waits c.sender ≡ b → name_of (sent_of (no_packet_step c y).told) ≡ outcome.Refused x → ⊥
unfolding no_packet_step sent_of name_of
no_packet_unrefused c y true w q = let z = simp w at q in never (cc)
no_packet_unrefused c y false w q = let z = simp (w, sent_answering (if_handshake c.device (nak_bytes reader y))) at q in never (cc)

happens_unrefused : {c : CoreState} {d : Done CoreState Output} {x : Refusal} → Happens c d → name_of (sent_of d.told) ≡ outcome.Refused x → ⊥
unfolding sent_of name_of
happens_unrefused nothing q = never (cc)
happens_unrefused {c} (no_packet y h n) q = no_packet_unrefused c y (waits c.sender) refl q
happens_unrefused (packet_heard body k) q = packet_unrefused k q

-- The sender refuses a start alone, and no event brings one.
pub sender_unrefused : (s : ReaderState) (e : Event) {x : Refusal} → name_of (sent_of (reader_step s e).told) ≡ outcome.Refused x → ⊥
unfolding reader_step framed
sender_unrefused s e q = happens_unrefused (event_happens s e) q

-- ---- what the sender keeps of the message before

packet_keeps : {c : CoreState} {body : List ℕ} {d : Done CoreState Output} → waits c.sender ≡ false → Outcome c body d → d.next.sender ≡ c.sender
unfolding sender_hears acts
packet_keeps {c} w (heeds h) = ap (λ (x : Done SenderState Sent). x.next) (rests c.sender h w)
packet_keeps w (turns h n) = refl
packet_keeps w (repeats e) = refl
packet_keeps w (acts_on k d) = refl

happens_keeps : {c : CoreState} {d : Done CoreState Output} → waits c.sender ≡ false → Happens c d → d.next.sender ≡ c.sender
unfolding no_packet_step
happens_keeps w nothing = refl
happens_keeps w (no_packet y h n) = simp w
happens_keeps w (packet_heard body k) = packet_keeps w k

-- With nothing out no event changes the sender, whatever the reader hears, does and answers.
pub sender_kept : (s : ReaderState) (e : Event) → waits s.core.sender ≡ false → (reader_step s e).next.core.sender ≡ s.core.sender
unfolding reader_step framed
sender_kept s e w = happens_keeps w (event_happens s e)

-- So a start behind any events says of the message gap what it would have said before them.
pub gap_kept : (s : ReaderState) (es : List Event) (p : List ℕ) → waits s.core.sender ≡ false → gap_due (through reader_step s es).next.core.sender p ≡ gap_due s.core.sender p
unfolding through after
gap_kept s [] p w = refl
gap_kept s (e ∷ es) p w = let k = sender_kept s e w in gap_kept (reader_step s e).next es p (rw k w) ∙ ap (λ (x : SenderState). gap_due x p) k

-- Power-up forgets the packet before and the failure.
pub power_up_forgets : (s : ReaderState) (x : ℕ) (p : List ℕ) → gap_due (power_up_reader s).core.sender (x ∷ p) ≡ false
unfolding power_up_reader gap_due same_bytes
power_up_forgets s x p = refl

-- ---- commands that 4 to 7 let through

-- Source, status, opcode and data length are right.
pub record Rightful (o t : ℕ) (d : List ℕ) (k : Command) : Type 0 where
  pub status : status_allowed o t ≡ true
  pub named : named_by o ≡ Some k
  pub fits : length_allowed k d ≡ true

-- A command as the host sends it.
abbrev pub command_body : ℕ → ℕ → List ℕ → List ℕ
command_body o t d = body_of o host t d

-- The mark is allowed wherever the packet without it is.
marked_allowed : (o t : ℕ) → t % 2 ≡ 0 → status_allowed o t ≡ true → status_allowed o (t + 1) ≡ true
unfolding status_allowed
marked_allowed o t e k =
    let a : (t + 1) / 4 ≡ t / 4 = omega arith in
    let b : (t + 1) / 16 ≡ t / 16 = omega arith in
    let c : (t + 1) / 2 ≡ t / 2 = omega arith in
    rw (a, b, c) k

marked_bit : (o t : ℕ) (d : List ℕ) → t % 2 ≡ 0 → eqb (get_or (command_body o (t + 1) d) 3 0 % 2) 1 ≡ true
unfolding body_of
marked_bit o t d plain = eq-eqb ((t + 1) % 2) 1 (omega arith)

module _ (c : CoreState) (o t : ℕ) (d : List ℕ) (k : Command) where
  -- Such a packet is a resent equal or is acted on.
  pub rightful_step : Rightful o t d k → packet_step c (command_body o t d) ≡ command_step k c (command_body o t d)
  unfolding packet_step judged_step named_step known_step body_of
  rightful_step r = simp (no_answer o r.named, r.status, r.named, data_of o host t d, r.fits)

  -- What has no mark is no repeat.
  new_command : t % 2 ≡ 0 → command_step k c (command_body o t d) ≡ acts c k (command_body o t d) (effect c.device k t d)
  unfolding command_step resent_equal body_of
  new_command plain = simp (ne_eqb (t % 2) 1 (λ z. omega arith), data_of o host t d)

  module _ (r : Rightful o t d k) (plain : t % 2 ≡ 0) where
    -- Without its mark it is acted on once, and is then the last accepted packet, with the answer it had.
    pub acted_on : {next : DeviceState} {rows : List (List ℕ)} → effect c.device k t d ≡ acted next rows →
        packet_step c (command_body o t d)
        ≡ record {
          next = record { device = next; last = command_body o t d; last_answer = answer_to c.device k d; sender = c.sender };
          told = map beeped rows ++ (switched next ∷ given answered (answer_to c.device k d));
        }
    unfolding acts body_of
    acted_on e = rightful_step r ∙ (new_command plain ∙ simp (e, unmarked_of o host t t d plain refl, data_of o host t d))

    -- Denied, it changes nothing and is answered by NAK.
    pub denied_by : {x : Refusal} → effect c.device k t d ≡ denied x → packet_step c (command_body o t d) ≡ refuses c x
    unfolding acts
    denied_by e = rightful_step r ∙ (new_command plain ∙ simp e)

-- Its marked copy is answered with the same bytes as then, or none if it had none, and nothing is acted on.
pub answered_again : (c : CoreState) (o t : ℕ) (d : List ℕ) (k : Command) → Rightful o t d k → t % 2 ≡ 0 → c.last ≡ command_body o t d →
    packet_step c (command_body o (t + 1) d) ≡ record { next = c; told = repeated ∷ given answered c.last_answer }
unfolding command_step resent_equal
answered_again c o t d k r plain e =
    let right : Rightful o (t + 1) d k = record { status = marked_allowed o t plain r.status; named = r.named; fits = r.fits } in
    rightful_step c o (t + 1) d k right ∙ simp (e, marked_bit o t d plain, unmarked_of o host t (t + 1) d plain (omega arith), same_refl (command_body o t d))

-- ---- ACK and NAK

-- CMD_ACK and CMD_NAK go to the sender, right or wrong: nothing is refused or answered, and the device and the last accepted packet stay.
pub answers_heeded : (c : CoreState) (body : List ℕ) → is_answer (get_or body 1 0) ≡ true →
    packet_step c body ≡ sender_hears c (sender_step c.sender (heed_of host (get_or body 1 0) (get_or body 2 0) (get_or body 3 0) (data_in body)))
unfolding packet_step
answers_heeded c body e = simp e

-- ---- values

-- What holds between the values before and after every command that is acted on, and of values that stay, holds of every event.
module _ (P : Values → Values → Type 0) (stays : (v : Values) → P v v)
    (commanded : (d next : DeviceState) (rows : List (List ℕ)) → Does d (acted next rows) → P d.values next.values) where
  outcome_values : {c : CoreState} {body : List ℕ} {d : Done CoreState Output} → Outcome c body d → P c.device.values d.next.device.values
  unfolding sender_hears acts
  outcome_values {c} (heeds h) = stays c.device.values
  outcome_values {c} (turns h n) = stays c.device.values
  outcome_values {c} (repeats e) = stays c.device.values
  outcome_values {c} (acts_on k {next} {rows} does) = commanded c.device next rows does

  no_packet_values : (c : CoreState) (r : Refusal) (b : Bool) → waits c.sender ≡ b → P c.device.values (no_packet_step c r).next.device.values
  unfolding no_packet_step
  no_packet_values c r true w = simp w (stays c.device.values)
  no_packet_values c r false w = simp w (stays c.device.values)

  happens_values : {c : CoreState} {d : Done CoreState Output} → Happens c d → P c.device.values d.next.device.values
  happens_values {c} nothing = stays c.device.values
  happens_values {c} (no_packet r h n) = no_packet_values c r (waits c.sender) refl
  happens_values (packet_heard body o) = outcome_values o

  pub event_values : (s : ReaderState) (e : Event) → P s.core.device.values (reader_step s e).next.core.device.values
  unfolding reader_step framed
  event_values s e = happens_values (event_happens s e)
