-- Demand 1 at the reader, from each call's contract alone: any control value, any buffers, any event. Assumes nothing.
use Prim.Native.Nat.{ℕ}
use mathlib.Core.Path.{◌≡◌, refl, sym, ap, ◌∙◌}
use mathlib.Core.Bool.{Bool, true, false}
use mathlib.Core.List.{List, [], ◌∷◌, ◌++◌, map, append-nil}
use lib.Dec.{eqb}
use lib.ListN.{get_or}
use Rattle.words.specs.Lists.{pick, over}
use Rattle.words.specs.Machine.{Done, after, through}
use Rattle.words.proofs.Lists.{over_take, never}
use Rattle.packet.specs.Packet.{body_in, is_answer}
use Rattle.packet.specs.Refusals.{number_of, nak_bytes}
use Rattle.packet.specs.declared.Refusal.{Refusal}
use Rattle.packet.specs.declared.Refusal.TheVariants.{Room}
use Rattle.packet.proofs.Theorems.{answered_number}
use Rattle.framer.specs.Framer.{Line, Heard, framer_step}
use Rattle.framer.specs.Behind.{framed}
use Rattle.framer.specs.Halves.{buffer_after}
use Rattle.framer.specs.Untouched.{as_it_was}
use Rattle.framer.specs.declared.Event.{Event}
use Rattle.framer.proofs.Outcomes as framer
use Rattle.framer.proofs.Touching.{line_kept}
use Rattle.sender.specs.Sender.{Sent, sender_step}
use Rattle.sender.specs.Promises.{copy_of, name_of}
use Rattle.sender.specs.Refused.{start_refusal, SenderRefuses}
use Rattle.sender.specs.declared.Sender.{Sender}
use Rattle.sender.specs.declared.Sending.{Sending}
use Rattle.sender.specs.declared.Outcome.TheVariants as outcome
use Rattle.sender.proofs.Refusing as sending
use Rattle.commands.specs.Promises.{device_from}
use Rattle.reader.specs.Reader.{CoreState, ReaderState, Output, refused, sent, handshake, if_handshake, refusal_answer, sender_hears, packet_step, heard_step, reader_step}
use Rattle.reader.specs.Promises.{told_of, answer_of, sent_of, last_answer_of, core_of, state_of, heeded, sender_after, sender_through, control_after, too_small, Hears, with_sender, Starts, TimesOut}
use Rattle.reader.specs.Refused.{ReaderRefuses}
use Rattle.reader.specs.declared.Reader.{Reader}
use Rattle.reader.specs.declared.Started.{Started}
use Rattle.reader.specs.declared.Taken.{Taken}
use Rattle.reader.specs.declared.Told.TheVariants as told
use Rattle.reader.proofs.Answering.{answer_answering, sent_answering}
use Rattle.reader.proofs.Theorems.{refusal_named, refusal_changes, refusal_cause, sender_unrefused}

-- ---- a start and a time-out are the sender's

-- A refused call of the sender leaves the reader's whole control value.
with_same : {reader : Reader} {listed x : Refusal} {s : Sending} {r : Started} {buffer buffer' room room' : List ℕ} →
    r ≡ record { reader = with_sender reader s.sender; outcome = s.outcome } →
    SenderRefuses listed x reader.sender s.sender buffer buffer' room room' →
    SenderRefuses listed x reader r.reader buffer buffer' room room'
with_same {reader} e k =
    record {
      number = k.number;
      control_same = ap (λ (z : Started). z.reader) e ∙ ap (with_sender reader) k.control_same;
      buffer_same = k.buffer_same;
      room_same = k.room_same;
    }

-- A refused start: 11 or 13.
pub start_refuses : {reader : Reader} {message copy bytes : List ℕ} {code : ℕ} {r : Started} {message' copy' : List ℕ} {x : Refusal} →
    Starts reader message copy code bytes r message' copy' → r.outcome ≡ outcome.Refused x →
    SenderRefuses (start_refusal copy) x reader r.reader message message' copy copy'
start_refuses k q = with_same k.is (sending.start_refuses k.starts (sym (ap (λ (z : Started). z.outcome) k.is) ∙ q))

-- A time-out that is not taken: 13 alone. The message buffer is only read.
pub time_out_refuses : {reader : Reader} {message copy : List ℕ} {r : Started} {copy' : List ℕ} {x : Refusal} →
    TimesOut reader message copy r copy' → r.outcome ≡ outcome.Refused x → SenderRefuses Room x reader r.reader message message copy copy'
time_out_refuses k q = with_same k.is (sending.hear_refuses k.hears (sym (ap (λ (z : Started). z.outcome) k.is) ∙ q))

-- ---- the sender hears nothing of an event that is refused

no_refusal : (ss : List Sent) {x : Refusal} {xs : List Output} {A : Type 0} → map sent ss ≡ refused x ∷ xs → A
no_refusal [] q = never (cc)
no_refusal (y ∷ ss) q = never (cc)

packet_unheard : (c : CoreState) (s : Sender) (message body : List ℕ) {x : Refusal} {xs : List Output} (answer : Bool) → is_answer (get_or body 1 0) ≡ answer →
    (packet_step c body).told ≡ refused x ∷ xs → sender_after s message body ≡ s
unfolding packet_step sender_hears sender_after
packet_unheard c s message body true a q = no_refusal (sender_step c.sender (heeded body)).told (simp a at q)
packet_unheard c s message body false a q = simp a

unheard : (c : CoreState) (s : Sender) (message : List ℕ) {l : Line} {e : Event} {d : Done Line Heard} {x : Refusal} {xs : List Output} → framer.Brings l e d →
    (through heard_step c d.told).told ≡ refused x ∷ xs → sender_through s message d.told ≡ s
unfolding through after heard_step sender_through
unheard c s message framer.nothing q = refl
unheard c s message framer.cut q = refl
unheard c s message framer.low q = refl
unheard c s message framer.wrong q = refl
unheard c s message (framer.whole {got} {b} f) q =
    let body : List ℕ = body_in (got ++ (b ∷ [])) in
    packet_unheard c s message body (is_answer (get_or body 1 0)) refl (sym (append-nil (packet_step c body).told) ∙ q)

sender_unheard : (r : ReaderState) (s : Sender) (message : List ℕ) (e : Event) {x : Refusal} {xs : List Output} → (reader_step r e).told ≡ refused x ∷ xs →
    sender_through s message (framer_step r.line e).told ≡ s
unfolding reader_step framed
sender_unheard r s message e q = unheard r.core s message (framer.brings r.line e) q

-- ---- a refused event

-- Nothing answers 13, whatever 9Fh is.
room_unanswered : (c : CoreState) → refusal_answer c Room ≡ []
unfolding refusal_answer if_handshake nak_bytes
room_unanswered c = silent (handshake c.device)
  where
    silent : (on : Bool) → pick {A = List ℕ} on [] [] ≡ []
    silent true = refl
    silent false = refl

module _ {reader : Reader} {line answers message answer copy : List ℕ} {e : Event} {r : Taken} {line' answers' answer' copy' : List ℕ} {x : Refusal}
    (k : Hears reader line answers message answer copy e r line' answers' answer' copy') (q : r.told ≡ told.Refused x) where
  before : ReaderState
  before = state_of reader line answers message

  refuses_by : (small : Bool) → too_small answer copy ≡ small → ReaderRefuses x e reader r line line' answers answers' message answer answer' copy copy'
  unfolding over answer_of sent_of copy_of name_of control_after before state_of core_of
  refuses_by true s =
      let i = simp s at k.is in
      let f : Room ≡ x = cc in
      let line_same : line' ≡ line = k.line_is ∙ simp s in
      let answer_same : answer' ≡ answer = k.answer_is ∙ simp s in
      let reader-same = ap (λ (a : Taken). a.reader) i in
      rw (← f)
      (record {
        number_13 = simp s;
        device_same = rw reader-same refl;
        sender_same = rw reader-same refl;
        nothing_sent = ap (λ (a : Taken). a.outcome) i;
        no_copy = k.copy_is ∙ simp s;
        answers_same = k.answers_is ∙ simp s;
        line_kept = record { last_packet = rw line_same refl; receiving = as_it_was line_same };
        answer_is = answer_same ∙ simp (room_unanswered before.core);
        count_is = ap (λ (a : Taken). a.answer) i ∙ simp (room_unanswered before.core);
        state_is = k.next ∙ simp s;
        not_taken = λ _. (reader-same, line_same, answer_same);
      })
  refuses_by false s =
      let i = simp s at k.is in
      let t : told_of (reader_step before e).told ≡ told.Refused x = cc in
      let p = refusal_named before e t in
      let n = answered_number x (refusal_cause before e p) in
      let changes = refusal_changes before e p in
      let core_is : (reader_step before e).next.core ≡ before.core = ap (λ (z : ReaderState). z.core) changes in
      let bytes = refusal_answer before.core x in
      let line_is : line' ≡ buffer_after reader.line line e = k.line_is ∙ simp s in
      record {
        number_13 = simp (s, n);
        device_same = ap (λ (a : Taken). a.reader.device) i ∙ ap (λ (c : CoreState). device_from c.device) core_is;
        sender_same = ap (λ (a : Taken). a.reader.sender) i ∙ sender_unheard before reader.sender message e p;
        nothing_sent = ap (λ (a : Taken). a.outcome) i ∙ simp (p, sent_answering bytes);
        no_copy = k.copy_is ∙ simp (s, p, sent_answering bytes);
        answers_same = k.answers_is ∙ simp s (rw core_is (over_take (last_answer_of reader.last_answer) answers));
        line_kept = rw line_is (line_kept reader.line line e);
        answer_is = k.answer_is ∙ simp (s, p, answer_answering bytes);
        count_is = ap (λ (a : Taken). a.answer) i ∙ simp (p, answer_answering bytes);
        state_is = k.next ∙ simp (s, n, changes);
        not_taken = λ f. let z : eqb (number_of Room) 13 ≡ false = ap (λ (y : Refusal). eqb (number_of y) 13) (sym f) ∙ n in never (cc);
      }

  -- A refused event at the reader.
  pub hear_refuses : ReaderRefuses x e reader r line line' answers answers' message answer answer' copy copy'
  hear_refuses = refuses_by (too_small answer copy) refl

-- Of an event the reader alone refuses: what the sender brings is never a refusal, with rooms of any size.
pub hear_unrefused : {reader : Reader} {line answers message answer copy : List ℕ} {e : Event} {r : Taken} {line' answers' answer' copy' : List ℕ} {x : Refusal} →
    Hears reader line answers message answer copy e r line' answers' answer' copy' → r.outcome ≡ outcome.Refused x → ⊥
hear_unrefused {reader} {line} {answers} {message} {answer} {copy} {e = e} {r = r} {x = x} k q = by (too_small answer copy) refl
  where
    by : (small : Bool) → too_small answer copy ≡ small → ⊥
    by true s = let i = simp s at k.is in never (cc)
    by false s = let i = simp s at k.is in sender_unrefused (state_of reader line answers message) e {x = x} (cc)
