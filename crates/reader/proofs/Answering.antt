-- What goes out as an answer, and the small functions around it: one law for each `return`. Assumes nothing.
use Prim.Native.Nat.{ℕ, ◌+◌, ◌-◌, ◌≤◌, ◌<◌}
use mathlib.Core.Path.{◌≡◌, refl, sym, ap, ◌∙◌}
use mathlib.Core.Bool.{Bool, true, false}
use mathlib.Core.List.{List, [], ◌∷◌, ◌++◌, map}
use native.Mathlib.Omega.{arith}
use lib.Dec.{eqb, ltb}
use lib.ListN.{length, get_or, take, drop, length-take, length-drop, length-append}
use lib.Seq.{length-take-le}
use borrow.Author.Tests.{le-leb, lt-leb, le-ltb}
use Rattle.words.specs.Lists.{pick, over, over_at, Copied}
use Rattle.words.specs.Machine.{Done, given}
use Rattle.words.proofs.Lists.{over_nil, over_take, take_over, part_over, copied_over, never}
use Rattle.packet.specs.Opcodes.{host, reader, param_send}
use Rattle.packet.specs.Packet.{body_of, seal, status_allowed, source_allowed, fields_of, build_of, written, reply_data, reply_opcode, reply_body}
use Rattle.packet.specs.Promises.{Answer, Naks, Fill, DataPart, SizeOf}
use Rattle.packet.specs.Refusals.{cause_of, nak_bytes}
use Rattle.packet.specs.Sizes.{data_size, packet_size, answer_size}
use Rattle.packet.specs.declared.Refusal.{Refusal}
use Rattle.packet.specs.declared.Reply.TheVariants.{Ack, Nak}
use Rattle.std.proofs.Common.{Result, Ok, Err}
use Rattle.packet.proofs.Writing.{length_body, length_seal, enough, sealed_around, reply_written, reply_never, nak_length, nak_never}
use Rattle.sender.specs.Sender.{Sent, sender_step}
use Rattle.sender.specs.Promises as sending
use Rattle.sender.specs.declared.Heard.{Heard}
use Rattle.sender.specs.declared.Sender.{Sender}
use Rattle.sender.specs.declared.Sending.{Sending}
use Rattle.table.specs.Rows.{pairs_size}
use Rattle.table.specs.Table.{answer_data}
use Rattle.table.specs.Promises.{values_of, Answers, Value}
use Rattle.table.specs.declared.Table.{Table}
use Rattle.table.proofs.Theorems.{answered_most}
use Rattle.commands.specs.Promises.{device_of}
use Rattle.commands.specs.declared.Command.{Command}
use Rattle.commands.specs.declared.Command.TheVariants as command
use Rattle.commands.specs.declared.Acted.{Acted}
use Rattle.commands.specs.declared.Device.{Device}
use Rattle.reader.specs.Reader.{CoreState, Output, refused, answered, sent, reader_answer_size, handshake, if_handshake, request_bytes, refuses, no_packet_step, is_request, answer_to, sender_hears}
use Rattle.reader.specs.Promises.{told_of, answer_of, sent_of, last_answer_of, core_of, sender_hearing, heeded, Steps, SoundCore, Handshake, Writes, StepOf, Leaves, ToSender, Again, Acts}
use Rattle.reader.specs.declared.Told.{Told}
use Rattle.reader.specs.declared.Told.TheVariants as told
use Rattle.reader.specs.declared.Core.{Core}
use Rattle.reader.specs.declared.Stepped.{Stepped}
use Rattle.reader.specs.declared.Reader.{Reader}

-- ---- the control value

module _ {reader : Reader} where
  pub core_kept : reader.last_answer ≤ reader_answer_size → SoundCore reader (record { last_answer = reader.last_answer; device = reader.device; sender = reader.sender })
  unfolding last_answer_of
  core_kept h = record { is = simp (le-leb reader.last_answer reader_answer_size h); few = h }

  pub core_none : reader_answer_size < reader.last_answer → SoundCore reader (record { last_answer = 0; device = reader.device; sender = reader.sender })
  unfolding last_answer_of
  core_none h = record { is = simp (lt-leb reader.last_answer reader_answer_size h); few = omega arith }

-- An answer that fits its buffer.
pub kept_fits : {n : ℕ} (answers : List ℕ) → n ≤ reader_answer_size → length answers ≡ reader_answer_size → n ≤ length answers
kept_fits answers h l = omega arith

-- ---- ACK and NAK

pub handshake_value : {d : Device} {v : ℕ} → Value d.table 0x9F v → Handshake d (eqb v 1)
unfolding handshake
handshake_value v = record { is = rw v.is refl }

writes_nothing : (room : List ℕ) → Writes [] room 0 room
writes_nothing room = record { is = refl; most = omega arith; answer_is = sym (over_nil room) }

-- With that room what is built is never refused, and its size is that of the bytes.
ack_writes : {room room' : List ℕ} {n : ℕ} (b : Result ℕ Refusal) → answer_size ≤ length room → Answer room reader Ack b room' → SizeOf b n → Writes (seal (reply_body reader Ack)) room n room'
unfolding source_allowed seal reply_body reply_opcode reply_data body_of
ack_writes (Ok m) h k z = let w = reply_written refl h k refl in let i = z.is in let l = w.0 in record { is = i ∙ l; most = omega arith; answer_is = w.1 }
ack_writes (Err x) h k z = absurd (reply_never refl h k refl)

nak_few : (x : Refusal) (b : Bool) → length (pick b [] (seal (reply_body reader (Nak (cause_of x))))) ≤ answer_size
unfolding seal reply_body reply_opcode reply_data body_of
nak_few x true = omega arith
nak_few x false = omega arith

nak_most : (x : Refusal) → length (nak_bytes reader x) ≤ answer_size
unfolding nak_bytes
nak_most x = nak_few x (eqb (cause_of x) 0)

nak_writes : {room room' : List ℕ} {x : Refusal} {n : ℕ} (b : Result ℕ Refusal) → answer_size ≤ length room → Naks room reader x b room' → SizeOf b n → Writes (nak_bytes reader x) room n room'
unfolding source_allowed
nak_writes {x = x} (Ok m) h k z =
    let w = nak_length refl h k refl in
    let i = z.is in
    let l = w.0 in
    let f = nak_most x in
    record { is = i ∙ l; most = omega arith; answer_is = w.1 }
nak_writes (Err y) h k z = absurd (nak_never refl h k refl)

module _ {d : Device} {room : List ℕ} {a : Bool} (p : Handshake d a) where
  shaken : {bytes room' : List ℕ} {n : ℕ} → a ≡ true → Writes bytes room n room' → Writes (if_handshake (device_of d) bytes) room n room'
  unfolding if_handshake
  shaken t w = simp (sym p.is ∙ t) w

  pub says_nothing : (bytes : List ℕ) → a ≡ false → Writes (if_handshake (device_of d) bytes) room 0 room
  unfolding if_handshake
  says_nothing bytes f = simp (sym p.is ∙ f) (writes_nothing room)

  module _ {room' : List ℕ} {b : Result ℕ Refusal} {n : ℕ} (t : a ≡ true) (h : reader_answer_size ≤ length room) where
    pub says_ack : Answer room reader Ack b room' → SizeOf b n → Writes (if_handshake (device_of d) (seal (reply_body reader Ack))) room n room'
    says_ack k z = shaken t (ack_writes b (omega arith) k z)

    pub says_nak : {x : Refusal} → Naks room reader x b room' → SizeOf b n → Writes (if_handshake (device_of d) (nak_bytes reader x)) room n room'
    says_nak k z = shaken t (nak_writes b (omega arith) k z)

-- ---- PARAM_SEND, the answer to a PARAM_REQUEST

built_send : (room : List ℕ) (n : ℕ) → reader_answer_size ≤ length room → n ≤ pairs_size → build_of (n + 6) room param_send reader 0 n ≡ Ok (n + 6)
unfolding fields_of source_allowed status_allowed
built_send room n h l = enough (n + 6) room param_send reader 0 n (omega arith) ∙ simp (le-leb n data_size (omega arith))

-- The data, n bytes, already stands in the room from the fifth byte on.
fills : {n size : ℕ} {room room' : List ℕ} {b : Result ℕ Refusal} → reader_answer_size ≤ length room → n ≤ pairs_size → Fill room param_send reader 0 n b room' → SizeOf b size →
    (size ≡ n + 6) × (room' ≡ over (seal (body_of param_send reader 0 (take n (drop 4 room)))) room)
unfolding written
fills {n} {room = room} h l k z =
    let e = k.is ∙ built_send room n h l in
    let i = rw e at z.is in
    (i, rw e at k.room_is)

request_few : {t : Table} {asked room room' : List ℕ} {w : Result ℕ Refusal} {n : ℕ} → Answers t asked room w room' → w ≡ Ok n → n ≤ pairs_size
request_few k e = answered_most k e

-- The part from the fifth byte on is lent, and has room for the data.
lent : (room : List ℕ) {t : Table} {asked part : List ℕ} {w : Result ℕ Refusal} → length room ≡ reader_answer_size → Answers t asked (take (reader_answer_size - 4) (drop 4 room)) w part →
    (w ≡ Ok (length (answer_data (values_of t) asked))) × (part ≡ over (answer_data (values_of t) asked) (take (reader_answer_size - 4) (drop 4 room)))
lent room h k =
    let s = take (reader_answer_size - 4) (drop 4 room) in
    let e : ltb (length s) pairs_size ≡ false = le-ltb (length s) pairs_size (simp (length-take, length-drop) (omega arith)) in
    (k.is ∙ simp e, k.room_is ∙ simp e)

module _ {t : Table} {asked room room' part : List ℕ} (h : length room ≡ reader_answer_size) where
  pub request_never : {x : Refusal} → Answers t asked (take (reader_answer_size - 4) (drop 4 room)) (Err x) part → Writes (request_bytes (values_of t) asked) room 0 room'
  request_never k = let g = (lent room h k).0 in never (cc)

  -- It has come back with the data at its front, and a packet is made around that.
  pub request_filled : {n r : ℕ} {b : Result ℕ Refusal} → Answers t asked (take (reader_answer_size - 4) (drop 4 room)) (Ok n) part → reader_answer_size ≤ length (take 4 room ++ (part ++ drop (reader_answer_size - 4) (drop 4 room))) →
      Fill (take 4 room ++ (part ++ drop (reader_answer_size - 4) (drop 4 room))) param_send reader 0 n b room' → SizeOf b r → Writes (request_bytes (values_of t) asked) room r room'
  unfolding request_bytes
  request_filled {n} {r} k wide k' z =
      let d = answer_data (values_of t) asked in
      let b = body_of param_send reader 0 d in
      let g = lent room h k in
      let s : n ≡ length d = let i = g.0 in cc in
      let m = request_few k refl in
      let f = fills wide m k' z in
      let i = f.0 in
      let l : length (seal b) ≡ length d + 6 = length_seal b ∙ rw (length_body param_send reader 0 d) (omega arith) in
      let there = part_over 4 (reader_answer_size - 4) d room part (omega arith) (omega arith) g.1 in
      record {
        is = omega arith;
        most = omega arith;
        answer_is = (rw there at f.1) ∙ sealed_around room d param_send reader 0 n (omega arith) s;
      }

-- ---- the answer to a command

module _ {n : ℕ} {room room' : List ℕ} (d : Device) (k : Command) (carried : List ℕ) where
  pub answers_request : is_request k ≡ true → Writes (request_bytes (values_of d.table) carried) room n room' → Writes (answer_to (device_of d) k carried) room n room'
  unfolding answer_to
  answers_request e w = simp e w

  pub answers_ack : is_request k ≡ false → Writes (if_handshake (device_of d) (seal (reply_body reader Ack))) room n room' → Writes (answer_to (device_of d) k carried) room n room'
  unfolding answer_to
  answers_ack e w = simp e w

pub no_request : (k : Command) → (k ≡ command.ParamRequest → ⊥) → is_request k ≡ false
unfolding is_request
no_request command.ParamSend h = refl
no_request command.ParamRequest h = absurd (h refl)
no_request command.ParamDefaults h = refl
no_request command.StartSession h = refl
no_request command.StopSession h = refl
no_request command.Beep h = refl
no_request command.LedOn h = refl
no_request command.LedOff h = refl
no_request command.ScanEnable h = refl
no_request command.ScanDisable h = refl
no_request command.AimOn h = refl
no_request command.AimOff h = refl

-- So many bytes as were written stand at the front of the room.
pub written_there : {bytes room room' : List ℕ} {n : ℕ} → Writes bytes room n room' → take n room' ≡ bytes
written_there {bytes} {room} {n = n} w = rw w.answer_is (take_over bytes room n w.is)

pub acts_answered : {c : Core} {acted : Acted} {k : Command} {n : ℕ} {carried answers answer answers' answer' : List ℕ} {r : Stepped} → length answers ≡ reader_answer_size →
    Writes (answer_to (device_of c.device) k carried) answer n answer' → Copied (take n answer') answers answers' →
    StepOf (record { last_answer = n; device = acted.device; sender = c.sender }) (told.Acted acted.beep) n r → Acts c acted k carried answers answer r answers' answer'
acts_answered l w k step =
    let t = written_there w in
    let m = w.most in
    record {
      is = step.is ∙ rw w.is refl;
      answers_is = copied_over (rw t (omega arith)) k ∙ rw t refl;
      answer_is = w.answer_is;
    }

pub again_same : {c : Core} {answers answer answer' : List ℕ} {r : Stepped} → c.last_answer ≤ length answers → length answers ≤ length answer →
    Copied (take c.last_answer answers) answer answer' → StepOf c told.Repeated c.last_answer r → Again c answers answer r answer'
again_same {c} {answers} h m k step = let n = length-take-le c.last_answer answers h in record { is = step.is; answer_is = copied_over (omega arith) k }

-- ---- the room

-- The front of a room was lent, and came back with q at its own front.
front_over : (k : ℕ) (q room part : List ℕ) → k ≤ length room → length (part ++ drop k room) ≡ length room → part ≡ over q (take k room) → part ++ drop k room ≡ over q room
unfolding over over_at
front_over k q room part h l e = part_over 0 k q room part fits (omega arith) e
  where
    fits : length q ≤ k
    fits =
        let long : length (over q (take k room)) ≡ length q + length (drop (length q) (take k room)) = length-append q (drop (length q) (take k room)) in
        let whole : length (take k room) ≡ k = length-take-le k room h in
        let same = ap length e in
        let all = length-append part (drop k room) in
        let rest = length-drop k room in
        omega arith

-- A step that writes into the fronts of the answer room and of the copy room writes into the rooms.
pub widen : {d : Done CoreState Output} {s : Sender} {answers part answers' copied : List ℕ} {r : Stepped} (answer copy : List ℕ) → reader_answer_size ≤ length answer →
    packet_size ≤ length copy → length (part ++ drop reader_answer_size answer) ≡ length answer → length (copied ++ drop packet_size copy) ≡ length copy →
    Steps d s answers (take reader_answer_size answer) (take packet_size copy) r answers' part copied →
    Steps d s answers answer copy r answers' (part ++ drop reader_answer_size answer) (copied ++ drop packet_size copy)
widen {d} {part = part} {copied = copied} answer copy h l m n k =
    record {
      told_is = k.told_is;
      count_is = k.count_is;
      outcome_is = k.outcome_is;
      core_is = k.core_is;
      answers_is = k.answers_is;
      answer_is = front_over reader_answer_size (answer_of d.told) answer part h m k.answer_is;
      copy_is = front_over packet_size (sending.copy_of (sent_of d.told)) copy copied l n k.copy_is;
    }

-- ---- steps that leave the state

-- The bytes that go out are the answer, and nothing of the sender's.
pub answer_answering : (bytes : List ℕ) → answer_of (given answered bytes) ≡ bytes
unfolding answer_of given
answer_answering [] = refl
answer_answering (b ∷ bs) = refl

pub sent_answering : (bytes : List ℕ) → sent_of (given answered bytes) ≡ []
unfolding sent_of given
sent_answering [] = refl
sent_answering (b ∷ bs) = refl

-- A step that leaves the state as it was, and tells these things.
pub still : (c : Core) (last answers message copy : List ℕ) (outs : List Output) {d : Done CoreState Output} {t : Told} {bytes answer answer' : List ℕ} {n : ℕ} {r : Stepped} → StepOf c t n r →
    d ≡ record { next = core_of c last answers message; told = outs } → t ≡ told_of outs → sent_of outs ≡ [] → answer_of outs ≡ bytes → Writes bytes answer n answer' → c.last_answer ≤ length answers →
    Steps d c.sender answers answer copy r answers answer' copy
unfolding core_of sending.name_of sending.copy_of
still c last answers message copy outs k e t s a w h =
    rw (e, k.is)
    (record {
      told_is = t;
      count_is = w.is ∙ rw a refl;
      outcome_is = rw s refl;
      core_is = rw (length-take-le c.last_answer answers h) refl;
      answers_is = sym (over_take c.last_answer answers);
      answer_is = w.answer_is ∙ rw a refl;
      copy_is = sym (rw s (over_nil copy));
    })

pub refuses_nak : {c : Core} {x : Refusal} {n : ℕ} {answer answer' : List ℕ} {r : Stepped} → Writes (if_handshake (device_of c.device) (nak_bytes reader x)) answer n answer' →
    StepOf c (told.Refused x) n r → Leaves (λ s. refuses s x) c answer r answer'
unfolding core_of told_of sent_of answer_of
refuses_nak {c} {x} w k =
    let b = if_handshake (device_of c.device) (nak_bytes reader x) in
    record { steps = λ last answers message copy h. still c last answers message copy (refused x ∷ given answered b) k refl refl (sent_answering b) (answer_answering b) w h }

module _ {c : Core} {x : Refusal} {a : Bool} {answer : List ℕ} {r : Stepped} (p : sending.Waits c.sender a) where
  pub no_packet_waits : a ≡ true → StepOf c (told.Refused x) 0 r → Leaves (λ s. no_packet_step s x) c answer r answer
  unfolding no_packet_step core_of told_of sent_of answer_of
  no_packet_waits e k =
      record {
        steps = λ last answers message copy h.
            still c last answers message copy (refused x ∷ []) k (simp (sym (p.is message) ∙ e)) refl refl refl (writes_nothing answer) h;
      }

  pub no_packet_refuses : {answer' : List ℕ} → a ≡ false → Leaves (λ s. refuses s x) c answer r answer' → Leaves (λ s. no_packet_step s x) c answer r answer'
  unfolding no_packet_step core_of
  no_packet_refuses e k = record { steps = λ last answers message copy h. simp (sym (p.is message) ∙ e) (k.steps last answers message copy h) }

-- ---- the sender

told_sent : (xs : List Sent) → told_of (map sent xs) ≡ told.Nothing
unfolding told_of
told_sent [] = refl
told_sent (x ∷ xs) = refl

answer_sent : (xs : List Sent) → answer_of (map sent xs) ≡ []
unfolding answer_of
answer_sent [] = refl
answer_sent (x ∷ xs) = answer_sent xs

pub sent_sent : (xs : List Sent) → sent_of (map sent xs) ≡ xs
unfolding sent_of
sent_sent [] = refl
sent_sent (x ∷ xs) = ap (λ (l : List Sent). x ∷ l) (sent_sent xs)

pub sender_hears_lem : {c : Core} {body carried message copy copy' : List ℕ} {h : Heard} {g : Sending} → packet_size ≤ length copy → DataPart body carried →
    sending.Heeds host (get_or body 1 0) (get_or body 2 0) (get_or body 3 0) carried h → sending.Hears c.sender message copy h g copy' →
    ToSender c body message copy (record { core = record { last_answer = c.last_answer; device = c.device; sender = g.sender }; told = told.Nothing; answer = 0; outcome = g.outcome }) copy'
unfolding sender_hears sender_hearing core_of
sender_hears_lem {c} {body} {carried} {message} {copy} {copy'} {h} {g} l p q k =
    let e : h ≡ heeded body = q.is ∙ rw p.is refl in
    let y = le-ltb (length copy) packet_size l in
    let d = sender_step (sending.state_of c.sender message) h in
    let xs = d.told in
    let is : g ≡ record { sender = sending.control_after (sending.sound_of c.sender) message h xs; outcome = sending.name_of xs } = k.is ∙ simp y in
    record {
      steps = λ last answers answer f.
          rw (← e)
          (record {
            told_is = sym (told_sent xs);
            count_is = rw (answer_sent xs) refl;
            outcome_is = rw (sent_sent xs, is) refl;
            core_is = rw (length-take-le c.last_answer answers f, is) refl;
            answers_is = sym (over_take c.last_answer answers);
            answer_is = sym (rw (answer_sent xs) (over_nil answer));
            copy_is = k.room_is ∙ simp (y, sent_sent xs);
          });
      stands = rw (← e) (ap (λ (x : Sending). sending.state_of x.sender message) (sym is) ∙ (k.next ∙ simp y));
    }
