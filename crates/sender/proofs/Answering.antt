-- Each answer of `hear` and `start` is a step of the sender: one law for each. Assumes nothing.
use Prim.Native.Nat.{ℕ, ◌+◌, ◌-◌, ◌≤◌, ◌<◌}
use mathlib.Core.Path.{◌≡◌, refl, sym, ap, ◌∙◌}
use mathlib.Core.Bool.{Bool, true, false}
use mathlib.Core.List.{List, [], ◌∷◌, ◌++◌}
use native.Mathlib.Omega.{arith}
use native.Mathlib.Decide.{dec_le, ℕ_discrete}
use lib.Dec.{eqb, ltb}
use lib.ListN.{length, take, drop, length-append, length-take, length-drop, take-append-drop}
use lib.Seq.{take_all, take-append-le, take-append_seam, drop-append-le}
use borrow.Author.Tests.{eq-eqb, ne_eqb, lt-ltb, le-ltb}
use Rattle.std.specs.Array.{IsFirstChunk}
use Rattle.words.specs.Lists.{both, either, same_bytes, over, over_at, Copied}
use Rattle.words.specs.Machine.{Done}
use Rattle.words.proofs.Lists.{over_nil, part_over, both_false, other_length, copied_over}
use Rattle.packet.specs.Opcodes.{reader, decode_data}
use Rattle.packet.specs.Packet.{body_of}
use Rattle.packet.specs.declared.Refusal.TheVariants as refusal
use Rattle.sender.specs.Pieces.{next_size, pieces_of, bodies_of, packets_of}
use Rattle.sender.specs.Sender.{SenderState, nothing_out, some, waits, Sent, copy, delivered, failed, refused, gap_due, begins, start_step, fails, resends, out_step, sender_step}
use Rattle.sender.specs.Promises.{Waits, Idle, name_of, copy_of, piece_of, rest_of, behind_of, last_of, out_of, state_of, moved_to, going_on, resending, copied_by, control_after, begun_control, started_of, Starts, Hears, NextSize, Sounds, Refuses, Moves, Ends, Fails, due_of, Due, Out, present_of, Writes, Copies, Begins, OutSteps, sound_of}
use Rattle.sender.specs.declared.Sender.{Sender}
use Rattle.sender.specs.declared.Heard.{Heard}
use Rattle.sender.specs.declared.Heard.TheVariants.{Ack, Nak, TimeOut, Nothing}
use Rattle.sender.specs.declared.Outcome.TheVariants as outcome
use Rattle.sender.specs.declared.Sending.{Sending}
use Rattle.sender.proofs.Cutting.{next_last, next_fits, left_behind, pieces_last, pieces_cut}
use Rattle.sender.proofs.Placing.{sounds_small}
use Rattle.sender.proofs.Standing.{tail_of, queue_is, marked_present, stands, state_out, step_is, tail_cut, tail_last, going_out, state_sound, state_waits, state_rests, rested, control_stands}

-- A NAK that asks again leaves what a time-out leaves.
nak_control : (s : Sender) (buffer : List ℕ) (cause : ℕ) (xs : List Sent) → control_after s buffer (Nak cause) xs ≡ control_after s buffer TimeOut xs
unfolding control_after copied_by
nak_control s buffer cause [] = refl
nak_control s buffer cause (copy gap body ∷ xs) = refl
nak_control s buffer cause (delivered n ∷ xs) = refl
nak_control s buffer cause (failed n ∷ xs) = refl
nak_control s buffer cause (refused r ∷ xs) = refl

-- The part behind the present piece, as the code lends it.
going_on_lem : {n : ℕ} (s : Sender) (buffer : List ℕ) →
    NextSize (take (s.at + s.size - s.at) (drop s.at buffer)) (take (s.length - (s.at + s.size)) (drop (s.at + s.size) buffer)) n →
    moved_to s (s.at + s.size) n 0 s.copies ≡ going_on s buffer
unfolding piece_of rest_of
going_on_lem s buffer k =
    let e : s.at + s.size - s.at ≡ s.size = omega arith in
    ap (λ (n : ℕ). moved_to s (s.at + s.size) n 0 s.copies) (k.is ∙ rw e refl)

pub going_out_by : {s m : Sender} {n : ℕ} (buffer : List ℕ) → Out s → length buffer ≡ 4096 → s.at + s.size < s.length →
    NextSize (take (s.at + s.size - s.at) (drop s.at buffer)) (take (s.length - (s.at + s.size)) (drop (s.at + s.size) buffer)) n →
    Moves s s.at s.size s.resends s.copies m → Out (record m { at = s.at + s.size; size = n; resends = 0 })
going_out_by {s} buffer o long h k v = rw v.is (rw (going_on_lem s buffer k) (going_out s buffer o long h))

pub resent_out_by : {s m : Sender} → Out s → s.resends < 2 → Moves s s.at s.size s.resends s.copies m → Out (record m { resends = s.resends + 1; copies = s.copies + 1 })
resent_out_by o h v =
    let few = o.few in
    rw v.is (record { out = refl; fits = o.fits; inside = o.inside; small = o.small; sized = o.sized; tries = omega arith; few = omega arith })

-- ---- a step with a message out

-- A step that gives a copy: the next control value stands for the next state.
copy_answer : {s s' : Sender} {buffer room room' body : List ℕ} {h : Heard} {r : Sending} {d : Done SenderState Sent} → copied_by h s buffer ≡ s' →
    sender_step (out_of s buffer) h ≡ d → d.told ≡ copy false body ∷ [] → Writes s' false body room r room' → OutSteps s buffer room h r room'
unfolding control_after name_of copy_of
copy_answer {s} {s'} {buffer} same e t w = record { is = w.is ∙ rw (e, t, same) refl; room_is = w.room_is ∙ rw (e, t) refl }

-- A step that ends the message.
end_answer : {s i : Sender} {buffer room : List ℕ} {h : Heard} {r : Sending} {d : Done SenderState Sent} {x : Sent} → copy_of (x ∷ []) ≡ [] →
    control_after s buffer h (x ∷ []) ≡ i → sender_step (out_of s buffer) h ≡ d → d.told ≡ x ∷ [] → r ≡ record { sender = i; outcome = name_of (x ∷ []) } →
    OutSteps s buffer room h r room
end_answer {room = room} none control e t is = record { is = is ∙ rw (e, t, control) refl; room_is = sym (rw (e, t, none) (over_nil room)) }

-- ---- the present packet again

-- Failed, by whatever was heard.
fail_answer : {s : Sender} {buffer room : List ℕ} {h : Heard} {r : Sending} → sender_step (out_of s buffer) h ≡ fails (stands s buffer) → Fails s r → OutSteps s buffer room h r room
unfolding fails stands copy_of name_of control_after
fail_answer {s} e f = end_answer {x = failed s.copies} refl refl e refl f.is

module _ {s : Sender} {buffer room : List ℕ} {r : Sending} (o : Out s) where
  pub again_copy : {n : Sender} {room' : List ℕ} → s.resends < 2 → Moves s s.at s.size s.resends s.copies n →
      Copies (record n { resends = s.resends + 1; copies = s.copies + 1 }) buffer 1 false room r room' → OutSteps s buffer room TimeOut r room'
  unfolding copied_by out_step resends stands present_of piece_of
  again_copy h m k =
      copy_answer {s' = resending s} {body = present_of s buffer 1} refl
      (step_is s buffer TimeOut o.out) (simp (lt-ltb s.resends 2 h, marked_present s buffer))
      (rw m.is at k.writes)

  pub again_failed : 2 ≤ s.resends → Fails s r → OutSteps s buffer room TimeOut r room
  unfolding out_step resends stands
  again_failed h f = fail_answer (step_is s buffer TimeOut o.out ∙ simp (le-ltb s.resends 2 h)) f

  pub denied_again : {room' : List ℕ} {cause : ℕ} → cause ≡ 1 → OutSteps s buffer room TimeOut r room' → OutSteps s buffer room (Nak cause) r room'
  unfolding out_step
  denied_again {cause = cause} e k =
      let same : sender_step (out_of s buffer) (Nak cause) ≡ sender_step (out_of s buffer) TimeOut =
      step_is s buffer (Nak cause) o.out ∙ (rw (eq-eqb cause 1 e) (sym (step_is s buffer TimeOut o.out))) in
      record { is = k.is ∙ rw (same, nak_control s buffer cause (sender_step (out_of s buffer) TimeOut).told) refl; room_is = k.room_is ∙ rw same refl }

  pub denied_failed : {cause : ℕ} → (cause ≡ 1 → ⊥) → Fails s r → OutSteps s buffer room (Nak cause) r room
  unfolding out_step
  denied_failed {cause = cause} h f = fail_answer (step_is s buffer (Nak cause) o.out ∙ simp (ne_eqb cause 1 h)) f

-- ---- the next packet

module _ {s : Sender} {buffer room : List ℕ} {r : Sending} (o : Out s) (long : length buffer ≡ 4096) where
  pub onward_next : {n : ℕ} {g : Sender} {room' : List ℕ} → s.at + s.size < s.length →
      NextSize (take (s.at + s.size - s.at) (drop s.at buffer)) (take (s.length - (s.at + s.size)) (drop (s.at + s.size) buffer)) n →
      Moves s s.at s.size s.resends s.copies g → Copies (record g { at = s.at + s.size; size = n; resends = 0 }) buffer 0 false room r room' → OutSteps s buffer room Ack r room'
  unfolding copied_by stands out_step
  onward_next h k m w =
      copy_answer {s' = going_on s buffer} {body = present_of (going_on s buffer) buffer 0} refl
      (step_is s buffer Ack o.out) (rw (tail_cut s buffer o long h) refl)
      (rw (going_on_lem s buffer k) at (rw m.is at w.writes))

  pub onward_delivered : s.length ≤ s.at + s.size → Ends s r → OutSteps s buffer room Ack r room
  unfolding stands out_step copy_of name_of control_after
  onward_delivered h k =
      end_answer {x = delivered s.copies} refl refl (step_is s buffer Ack o.out) (rw (tail_last s buffer o long h) refl) k.is

-- ---- what is heard

pub out_as : {s : Sender} {buffer room room' : List ℕ} {h g : Heard} {r : Sending} → h ≡ g → OutSteps s buffer room g r room' → OutSteps s buffer room h r room'
out_as e k = rw e k

pub out_nothing : {s : Sender} {buffer room : List ℕ} {h : Heard} → h ≡ Nothing → Out s → OutSteps s buffer room h (record { sender = s; outcome = outcome.Nothing }) room
unfolding out_step control_after name_of copy_of
out_nothing {s} {buffer} {room} e o = let step = step_is s buffer Nothing o.out in rw e (record { is = rw step refl; room_is = rw step (sym (over_nil room)) })

-- ---- the front of the room, lent as an array and put back

module _ {room front : List ℕ} (f : IsFirstChunk room front 257) where
  pub front_same : front ++ drop 257 room ≡ room
  front_same = rw f.same (take-append-drop 257 room)

  pub front_over : (p : List ℕ) {part : List ℕ} → length (part ++ drop 257 room) ≡ length room → part ≡ over p front → part ++ drop 257 room ≡ over p room
  unfolding over over_at
  front_over p {part} l e =
      let enough = f.enough in
      let whole = simp (length-append, length-drop) at l in
      let long : length part ≡ length p + (length front - length p) = ap length e ∙ simp (length-append, length-drop) in
      let wide = ap length f.same ∙ length-take 257 room in
      part_over 0 257 p room part (omega arith) enough (e ∙ rw f.same refl)

pub hear_room : {s : Sender} {buffer room : List ℕ} {h : Heard} {r : Sending} → length room < 257 → Refuses s refusal.Room r → Hears s buffer room h r room
hear_room {s} {buffer} {room} h k =
    record { is = simp (lt-ltb (length room) 257 h) k.is; next = simp (lt-ltb (length room) 257 h, k.is); room_is = simp (lt-ltb (length room) 257 h, over_nil room) }

waits_by : (s n : Sender) (buffer : List ℕ) (k : Sounds s n) (d : Bool) → n.out ≡ d → n.out ≡ waits (state_of s buffer)
unfolding some stands
waits_by s n buffer k true o = o ∙ sym (rw (state_waits s n buffer k o) refl)
waits_by s n buffer k false o = o ∙ sym (rw (state_rests s n buffer k o) refl)

pub waits_is : {s n : Sender} → Sounds s n → Waits s n.out
waits_is {s} {n} k = record { is = λ buffer. waits_by s n buffer k n.out refl }

module _ {s n : Sender} {buffer room : List ℕ} {h : Heard} (l : 257 ≤ length room) (k : Sounds s n) where
  -- What a step leaves, where the control value stands for the next state.
  hear_by : {room' : List ℕ} {r : Sending} →
      state_of (control_after (sound_of s) buffer h (sender_step (state_of s buffer) h).told) buffer ≡ (sender_step (state_of s buffer) h).next → OutSteps n buffer room h r room' →
      Hears s buffer room h r room'
  hear_by {r = r} stood a =
      let heard = sender_step (state_of s buffer) h in
      let is : r ≡ record { sender = control_after (sound_of s) buffer h heard.told; outcome = name_of heard.told } = a.is ∙ rw (← k.is, state_sound s n buffer k) refl in
      record {
        is = rw (le-ltb (length room) 257 l) is;
        next = rw (le-ltb (length room) 257 l, is) stood;
        room_is = a.room_is ∙ rw (le-ltb (length room) 257 l, state_sound s n buffer k) refl;
      }

  pub hear_out : {front part : List ℕ} {r : Sending} → length buffer ≡ 4096 → IsFirstChunk room front 257 → length (part ++ drop 257 room) ≡ length room →
      OutSteps n buffer front h r part → Hears s buffer room h r (part ++ drop 257 room)
  hear_out long f l a = hear_by (control_stands s buffer h long) (record { is = a.is; room_is = front_over f _ l a.room_is })

  pub hear_nothing : {front : List ℕ} → IsFirstChunk room front 257 → n.out ≡ false →
      Hears s buffer room h (record { sender = n; outcome = outcome.Nothing }) (front ++ drop 257 room)
  unfolding out_of sender_step out_step control_after name_of copy_of
  hear_nothing f o =
      rw (front_same f) (hear_by (rw (state_sound s n buffer k, ← k.is) (simp o (rested s n buffer k ∙ simp o))) (record { is = simp o; room_is = simp (o, over_nil room) }))

-- ---- a start that is refused

module _ {s : Sender} {buffer room m : List ℕ} {code : ℕ} {r : Sending} where
  pub start_room : length room < 257 → Refuses s refusal.Room r → Starts s buffer room code m r buffer room
  unfolding started_of
  start_room h k =
      record {
        is = simp (lt-ltb (length room) 257 h) k.is;
        next = simp (lt-ltb (length room) 257 h, k.is);
        buffer_is = simp (lt-ltb (length room) 257 h, over_nil buffer);
        room_is = simp (lt-ltb (length room) 257 h, over_nil room);
      }

  start_refused : 257 ≤ length room → either (ltb 4096 (length m)) (waits (state_of s buffer)) ≡ true → Refuses s refusal.Start r →
      Starts s buffer room code m r buffer room
  unfolding started_of start_step copy_of
  start_refused h e k =
      record {
        is = simp (le-ltb (length room) 257 h, e) k.is;
        next = simp (le-ltb (length room) 257 h, e, k.is);
        buffer_is = simp (le-ltb (length room) 257 h, e, over_nil buffer);
        room_is = simp (le-ltb (length room) 257 h, e, over_nil room);
      }

  module _ {front : List ℕ} (f : IsFirstChunk room front 257) (k : Refuses s refusal.Start r) where
    pub start_long : 4096 < length m → Starts s buffer room code m r buffer (front ++ drop 257 room)
    start_long l = rw (front_same f) (start_refused f.enough (simp (lt-ltb 4096 (length m) l)) k)

    pub start_waits : {n : Sender} → length m ≤ 4096 → Sounds s n → n.out ≡ true → Starts s buffer room code m r buffer (front ++ drop 257 room)
    unfolding some stands
    start_waits {n} l x o = rw (front_same f) (start_refused f.enough (simp (le-ltb 4096 (length m) l, state_waits s n buffer x o)) k)

-- ---- a message that is begun

-- Copied to the front of the buffer it is out from its first byte on.
module _ (code : ℕ) (m buffer : List ℕ) where
  abbrev begun : Sender
  begun = begun_control code m

  begun_out : length m ≤ 4096 → Out begun
  begun_out l =
      let f = next_fits [] m in
      let inside = f.inside in
      let e : length m - 0 ≡ length m = omega arith in
      record { out = refl; fits = l; inside = omega arith; small = f.small; sized = rw e f.sized; tries = omega arith; few = omega arith }

  -- Its first piece, and what stands behind it.
  begun_piece : piece_of begun (over m buffer) ≡ take (next_size [] m) m
  unfolding piece_of over
  begun_piece = let inside = (next_fits [] m).inside in take-append-le (next_size [] m) m (drop (length m) buffer) (omega arith)

  begun_rest : rest_of begun (over m buffer) ≡ drop (next_size [] m) m
  unfolding rest_of over
  begun_rest =
      let inside = (next_fits [] m).inside in
      let n = length-drop (next_size [] m) m in
      let z : 0 + next_size [] m ≡ next_size [] m = omega arith in
      rw (z, drop-append-le (next_size [] m) m (drop (length m) buffer) (omega arith), ← n)
      (take-append_seam (drop (next_size [] m) m) (drop (length m) buffer))

  pieces_begun : Dec (length m ≤ 250) → pieces_of m ≡ piece_of begun (over m buffer) ∷ behind_of begun (over m buffer)
  unfolding pieces_of behind_of
  pieces_begun (yes l) =
      let e = next_last [] m l in
      pieces_last [] m l ∙ rw (begun_piece, le-ltb (0 + next_size [] m) (length m) (omega arith), take_all (next_size [] m) m (omega arith)) refl
  pieces_begun (no l) =
      let some = (left_behind [] m (omega arith)).some in
      pieces_cut [] m (omega arith) ∙ rw (begun_piece, begun_rest, lt-ltb (0 + next_size [] m) (length m) (omega arith)) refl

  packets_begun : packets_of code m ≡ present_of begun (over m buffer) 0 ∷ tail_of begun (over m buffer)
  unfolding packets_of
  packets_begun = ap (bodies_of code) (pieces_begun (dec_le (length m) 250)) ∙ queue_is begun (over m buffer)

-- ---- the gap

-- Two packets of one piece are compared by type and data.
same_by : (code code' : ℕ) (p m : List ℕ) → Dec (length p ≡ length m) →
    same_bytes (body_of decode_data reader 0 (code ∷ p)) (body_of decode_data reader 0 (code' ∷ m)) ≡ both (eqb code code') (same_bytes p m)
unfolding same_bytes body_of
same_by code code' p m (yes e) = simp (eq-eqb (length (code ∷ p) + 4) (length (code' ∷ m) + 4) (omega arith))
same_by code code' p m (no e) =
    simp (ne_eqb (length (code ∷ p) + 4) (length (code' ∷ m) + 4) (λ z. e (omega arith))) (sym (both_false (eqb code code') (same_bytes p m) (other_length p m e)))

-- One that is not the last has another status.
other_status : (code code' : ℕ) (p q : List ℕ) → same_bytes (body_of decode_data reader 0 (code ∷ p)) (body_of decode_data reader 2 (code' ∷ q)) ≡ false
unfolding same_bytes body_of
other_status code code' p q = both_false (eqb (length (code ∷ p) + 4) (length (code' ∷ q) + 4)) false refl

-- What is kept of the message before, beside a packet of this one.
module _ (s : Sender) (buffer m : List ℕ) (code : ℕ) (small : s.size ≤ 250) where
  piece_small : length (piece_of s buffer) ≤ 250
  unfolding piece_of
  piece_small = simp length-take (omega arith)

  last_piece : (d : Bool) → s.delivered ≡ d →
      same_bytes (last_of s buffer) (body_of decode_data reader 0 (code ∷ m)) ≡ both s.delivered (both (eqb s.code code) (same_bytes (piece_of s buffer) m))
  unfolding last_of same_bytes body_of
  last_piece true e = simp e (same_by s.code code (piece_of s buffer) m (ℕ_discrete (length (piece_of s buffer)) (length m)))
  last_piece false e = simp e

  last_other : (q : List ℕ) → 250 < length m → (d : Bool) → s.delivered ≡ d →
      same_bytes (last_of s buffer) (body_of decode_data reader 2 (code ∷ q)) ≡ both s.delivered (both (eqb s.code code) (same_bytes (piece_of s buffer) m))
  unfolding last_of same_bytes body_of
  last_other q h true e =
      let l = piece_small in
      simp e
      (other_status s.code code (piece_of s buffer) q ∙ sym (both_false (eqb s.code code) (same_bytes (piece_of s buffer) m) (other_length (piece_of s buffer) m (λ z. omega arith))))
  last_other q h false e = simp e

  -- The last packet that is kept is compared with the message's first one.
  due_by : (front : List ℕ) → Dec (length m ≤ 250) →
      same_bytes (last_of s buffer) (present_of (begun_control code m) (over m front) 0)
      ≡ both s.delivered (both (eqb s.code code) (same_bytes (piece_of s buffer) m))
  unfolding present_of
  due_by front (yes h) =
      let e = next_last [] m h in
      rw (le-ltb (0 + next_size [] m) (length m) (omega arith), begun_piece code m front, take_all (next_size [] m) m (omega arith)) (last_piece s.delivered refl)
  due_by front (no h) =
      let some = (left_behind [] m (omega arith)).some in
      rw (lt-ltb (0 + next_size [] m) (length m) (omega arith), begun_piece code m front) (last_other (take (next_size [] m) m) (omega arith) s.delivered refl)

  begins_is : (front : List ℕ) →
      begins (packets_of code m) (nothing_out s.failed (last_of s buffer))
      ≡ record {
        next = stands (begun_control code m) (over m front);
        told = copy (due_of s buffer code m) (present_of (begun_control code m) (over m front) 0) ∷ [];
      }
  unfolding begins gap_due due_of stands
  begins_is front = rw (packets_begun code m front, due_by front (dec_le (length m) 250)) refl

-- ---- the start

-- The control value as the code makes it, from an idle one.
abbrev begun_from : Sender → ℕ → List ℕ → ℕ → Sender
begun_from i code m n =
    record { out = true; code = code; length = length m; at = i.at; size = n; resends = i.resends; copies = i.copies; failed = i.failed; delivered = i.delivered }

begun_is : {i : Sender} (code : ℕ) {m : List ℕ} {n : ℕ} → Idle false i → NextSize [] m n → begun_from i code m n ≡ begun_control code m
begun_is code i k = rw (i.is, k.is) refl

pub begin_copy : {s i : Sender} {buffer buffer' room room' m : List ℕ} {code n : ℕ} {gap : Bool} {r : Sending} → Idle false i → length m ≤ length buffer →
    Copied m buffer buffer' → Due s buffer code m gap → NextSize [] m n → Copies (begun_from i code m n) buffer' 0 gap room r room' → Begins s buffer room code m r buffer' room'
begin_copy {code = code} idle h copied due k c = record { buffer_is = copied_over h copied; copies = rw (begun_is code idle k, due.is) at c }

pub begun_out_by : {i : Sender} {m : List ℕ} (code : ℕ) {n : ℕ} → length m ≤ 4096 → Idle false i → NextSize [] m n → Out (begun_from i code m n)
begun_out_by {m = m} code l i k = rw (begun_is code i k) (begun_out code m [] l)

pub start_copy : {s n : Sender} {buffer buffer' room front part m : List ℕ} {code : ℕ} {r : Sending} → length m ≤ 4096 → Sounds s n → n.out ≡ false →
    IsFirstChunk room front 257 → length (part ++ drop 257 room) ≡ length room → Begins n buffer front code m r buffer' part → Starts s buffer room code m r buffer' (part ++ drop 257 room)
unfolding started_of start_step some name_of copy_of
start_copy {s} {n} {buffer} {buffer'} {room} {m = m} {code = code} l k o f whole b =
    let filled = b.buffer_is in
    let w = b.copies.writes in
    let tests = le-ltb (length room) 257 f.enough in
    let short = le-ltb 4096 (length m) l in
    let rests = state_rests s n buffer k o in
    let step = begins_is n buffer m code (sounds_small k) buffer in
    record {
      is = w.is ∙ simp (tests, short, rests, step, filled);
      next = simp (tests, short, rests, step, filled, w.is) (state_out (begun_control code m) (over m buffer) (begun_out code m buffer l));
      buffer_is = filled ∙ simp (tests, short, rests);
      room_is = front_over f _ whole w.room_is ∙ simp (tests, short, rests, step, filled);
    }
