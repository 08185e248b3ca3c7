-- What control value and buffer stand for: the present packet and those of the message behind it, or the last packet of the message before. So
-- the control value after a step stands for the state after it. Assumes nothing.
use Prim.Native.Nat.{ℕ, zero, suc, ◌+◌, ◌-◌, ◌≤◌, ◌<◌}
use mathlib.Core.Path.{◌≡◌, refl, sym, ap, ◌∙◌}
use mathlib.Core.Bool.{Bool, true, false}
use mathlib.Core.List.{List, [], ◌∷◌}
use native.Mathlib.Omega.{arith}
use native.Mathlib.Decide.{dec_le}
use lib.Dec.{eqb, ltb}
use lib.ListN.{length, take, drop, length-drop}
use lib.Seq.{drop-drop, take-take, take_all, take-nil, length-take-le}
use borrow.Author.Tests.{lt-ltb, ltb-true, ltb-false, le-ltb}
use Rattle.words.specs.Lists.{pick}
use Rattle.words.specs.Machine.{Done}
use Rattle.packet.specs.Opcodes.{reader, decode_data}
use Rattle.packet.specs.Packet.{body_of, marked}
use Rattle.packet.proofs.Marks.{marked_of}
use Rattle.sender.specs.Pieces.{next_size, pieces_from, bodies_of}
use Rattle.sender.specs.Sender.{SenderState, nothing_out, sending, Sent, fails, resends, out_step, sender_step}
use Rattle.sender.specs.Promises.{idle_control, sized_of, placed_of, made_of, sound_of, piece_of, rest_of, behind_of, last_of, out_of, state_of, going_on, resending, copied_by, delivered_control, control_after, Sounds, Out, present_of}
use Rattle.sender.specs.declared.Sender.{Sender}
use Rattle.sender.specs.declared.Heard.{Heard}
use Rattle.sender.specs.declared.Heard.TheVariants.{Ack, Nak, TimeOut, Nothing}
use Rattle.sender.proofs.Cutting.{next_last, next_fits, left_behind, pieces_from_cut, cut_some, pieces_last, pieces_cut, bodies_more}
use Rattle.sender.proofs.Placing.{out_full, sound_out, sound_again, sound_within, taken_kept, sounds_out}

-- ---- the present packet

-- The packets behind it.
unfoldable pub tail_of : Sender → List ℕ → List (List ℕ)
tail_of s buffer = bodies_of s.code (behind_of s buffer)

queue_by : (s : Sender) (buffer : List ℕ) (d : Bool) → ltb (s.at + s.size) s.length ≡ d →
    bodies_of s.code (piece_of s buffer ∷ behind_of s buffer) ≡ present_of s buffer 0 ∷ tail_of s buffer
unfolding present_of tail_of behind_of bodies_of
queue_by s buffer true e = simp e (bodies_more s.code (piece_of s buffer) (pieces_from (piece_of s buffer) (rest_of s buffer)) (cut_some (pieces_from_cut (piece_of s buffer) (rest_of s buffer))))
queue_by s buffer false e = simp e

pub queue_is : (s : Sender) (buffer : List ℕ) → bodies_of s.code (piece_of s buffer ∷ behind_of s buffer) ≡ present_of s buffer 0 ∷ tail_of s buffer
queue_is s buffer = queue_by s buffer (ltb (s.at + s.size) s.length) refl

marked_by : (code : ℕ) (p : List ℕ) (d : Bool) →
    marked (pick d (body_of decode_data reader 2 (code ∷ p)) (body_of decode_data reader 0 (code ∷ p)))
    ≡ pick d (body_of decode_data reader 3 (code ∷ p)) (body_of decode_data reader 1 (code ∷ p))
marked_by code p true = marked_of decode_data reader 2 (code ∷ p) refl
marked_by code p false = marked_of decode_data reader 0 (code ∷ p) refl

pub marked_present : (s : Sender) (buffer : List ℕ) → marked (present_of s buffer 0) ≡ present_of s buffer 1
unfolding present_of
marked_present s buffer = marked_by s.code (piece_of s buffer) (ltb (s.at + s.size) s.length)

-- ---- control value and state

-- The state of a message that is out.
unfoldable pub stands : Sender → List ℕ → SenderState
stands s buffer = sending (present_of s buffer 0 ∷ tail_of s buffer) s.resends s.copies

out_is : (s : Sender) (buffer : List ℕ) → s.out ≡ true → out_of s buffer ≡ stands s buffer
unfolding out_of stands
out_is s buffer e = simp (e, queue_is s buffer)

pub state_out : (s : Sender) (buffer : List ℕ) → Out s → state_of s buffer ≡ stands s buffer
unfolding state_of
state_out s buffer o = rw (sound_out s o) (out_is s buffer o.out)

state_idle : (f : Bool) (buffer : List ℕ) → state_of (idle_control f) buffer ≡ nothing_out f []
unfolding state_of sound_of made_of placed_of sized_of out_of last_of
state_idle f buffer = refl

-- ---- a step with a message out

pub step_is : (s : Sender) (buffer : List ℕ) (h : Heard) → s.out ≡ true → sender_step (out_of s buffer) h ≡ out_step (present_of s buffer 0 ∷ tail_of s buffer) (stands s buffer) h
unfolding sender_step stands
step_is s buffer h e = rw (out_is s buffer e) refl

resending_out : {s : Sender} → Out s → s.resends < 2 → Out (resending s)
resending_out o h =
    let f = o.few in
    record { out = refl; fits = o.fits; inside = o.inside; small = o.small; sized = o.sized; tries = omega arith; few = omega arith }

-- What is left of a message in the buffer.
drop_take : (at n : ℕ) (s : List ℕ) → drop at (take n s) ≡ take (n - at) (drop at s)
drop_take zero n s = let e : n - 0 ≡ n = omega arith in rw e refl
drop_take (suc at) zero s = let e : 0 - suc at ≡ 0 = omega arith in rw e refl
drop_take (suc at) (suc n) [] = sym (take-nil (suc n - suc at))
drop_take (suc at) (suc n) (x ∷ xs) = let e : suc n - suc at ≡ n - at = omega arith in rw e (drop_take at n xs)

-- ---- the next piece

module _ (s : Sender) (buffer : List ℕ) (o : Out s) (long : length buffer ≡ 4096) where
  abbrev end : ℕ
  end = s.at + s.size

  abbrev rest : List ℕ
  rest = rest_of s buffer

  abbrev next : ℕ
  next = next_size (piece_of s buffer) rest

  length_rest : length rest ≡ s.length - end
  unfolding rest_of
  length_rest = let f = o.fits in let e = length-drop end buffer in length-take-le (s.length - end) (drop end buffer) (omega arith)

  -- It stands where the rest begins, and behind it stands what is left of the rest.
  next_piece : take next rest ≡ piece_of (going_on s buffer) buffer
  unfolding rest_of piece_of
  next_piece =
      let f = (next_fits (piece_of s buffer) rest).inside in
      let l = length_rest in
      take-take next (s.length - end) (drop end buffer) (omega arith)

  next_rest : drop next rest ≡ rest_of (going_on s buffer) buffer
  unfolding rest_of
  next_rest =
      let e : s.length - end - next ≡ s.length - (end + next) = omega arith in
      drop_take next (s.length - end) (drop end buffer) ∙ rw (e, drop-drop next end buffer) refl

  behind_by : end < s.length → Dec (length rest ≤ 250) → pieces_from (piece_of s buffer) rest ≡ piece_of (going_on s buffer) buffer ∷ behind_of (going_on s buffer) buffer
  unfolding behind_of
  behind_by h (yes l) =
      let n = next_last (piece_of s buffer) rest l in
      let r = length_rest in
      let all : rest ≡ piece_of (going_on s buffer) buffer = sym (take_all next rest (omega arith)) ∙ next_piece in
      pieces_last (piece_of s buffer) rest l ∙ rw (← all, le-ltb (end + next) s.length (omega arith)) refl
  behind_by h (no l) =
      let w = left_behind (piece_of s buffer) rest (omega arith) in
      let some = w.some in
      let r = length_rest in
      pieces_cut (piece_of s buffer) rest (omega arith) ∙ rw (next_piece, next_rest, lt-ltb (end + next) s.length (omega arith)) refl

  pub tail_cut : end < s.length → tail_of s buffer ≡ present_of (going_on s buffer) buffer 0 ∷ tail_of (going_on s buffer) buffer
  unfolding tail_of behind_of
  tail_cut h = simp (lt-ltb end s.length h) (ap (bodies_of s.code) (behind_by h (dec_le (length rest) 250)) ∙ queue_is (going_on s buffer) buffer)

  pub tail_last : s.length ≤ end → tail_of s buffer ≡ []
  unfolding tail_of behind_of bodies_of
  tail_last h = simp (le-ltb end s.length h)

  -- The control value that goes on to it.
  pub going_out : end < s.length → Out (going_on s buffer)
  going_out h =
      let f = o.few in
      let t = o.tries in
      let k = out_full o h in
      let n = next_fits (piece_of s buffer) rest in
      let r = length_rest in
      let within = n.inside in
      record { out = refl; fits = o.fits; inside = omega arith; small = n.small; sized = rw r at n.sized; tries = omega arith; few = omega arith }

-- ---- the control value that is taken

-- What control value and buffer stand for, by the sound control value.
module _ (s n : Sender) (buffer : List ℕ) (k : Sounds s n) where
  pub state_sound : state_of s buffer ≡ out_of n buffer
  unfolding state_of
  state_sound = rw k.is refl

  pub state_waits : n.out ≡ true → state_of s buffer ≡ stands n buffer
  state_waits o = state_sound ∙ out_is n buffer o

  pub state_rests : n.out ≡ false → state_of s buffer ≡ nothing_out n.failed (last_of n buffer)
  unfolding out_of
  state_rests o = state_sound ∙ simp o

-- ---- the control value after a step

module _ (s : Sender) (buffer : List ℕ) (h : Heard) where
  abbrev StandsAfter : Done SenderState Sent → Type 0
  StandsAfter d = state_of (control_after s buffer h d.told) buffer ≡ d.next

-- The present packet is the same when it is resent.
resent_same : (s : Sender) (buffer : List ℕ) → stands (resending s) buffer ≡ sending (present_of s buffer 0 ∷ tail_of s buffer) (s.resends + 1) (s.copies + 1)
unfolding stands present_of tail_of behind_of piece_of rest_of
resent_same s buffer = refl

module _ (s : Sender) (buffer : List ℕ) (o : Out s) (long : length buffer ≡ 4096) where
  resent_stands : (p : List ℕ) (h : Heard) (d : Bool) → ltb s.resends 2 ≡ d → copied_by h s buffer ≡ resending s → StandsAfter s buffer h (resends p (stands s buffer))
  unfolding resends fails stands control_after
  resent_stands p h true e a = simp e (rw a (state_out (resending s) buffer (resending_out o (ltb-true s.resends 2 e)) ∙ resent_same s buffer))
  resent_stands p h false e a = simp e (state_idle true buffer)

  denied_stands : (p : List ℕ) (cause : ℕ) (d : Bool) → StandsAfter s buffer (Nak cause) (pick d (resends p (stands s buffer)) (fails (stands s buffer)))
  unfolding copied_by fails control_after
  denied_stands p cause true = resent_stands p (Nak cause) (ltb s.resends 2) refl refl
  denied_stands p cause false = state_idle true buffer

  -- A message that was delivered leaves its last packet.
  kept_stands : s.length ≤ s.at + s.size → state_of (delivered_control s) buffer ≡ nothing_out false (present_of s buffer 0)
  unfolding state_of out_of last_of present_of piece_of
  kept_stands l =
      let i = o.inside in
      let m = o.small in
      rw (taken_kept (delivered_control s) o.fits i o.sized refl refl (omega arith)) (simp (le-ltb (s.at + s.size) s.length l))

  onward_stands : (d : Bool) → ltb (s.at + s.size) s.length ≡ d → StandsAfter s buffer Ack (out_step (present_of s buffer 0 ∷ tail_of s buffer) (stands s buffer) Ack)
  unfolding out_step control_after copied_by stands
  onward_stands true e =
      let h = ltb-true (s.at + s.size) s.length e in
      rw (tail_cut s buffer o long h) (state_out (going_on s buffer) buffer (going_out s buffer o long h))
  onward_stands false e =
      let h = ltb-false (s.at + s.size) s.length e in
      rw (tail_last s buffer o long h) (kept_stands h)

  out_stands : (h : Heard) → StandsAfter s buffer h (out_step (present_of s buffer 0 ∷ tail_of s buffer) (stands s buffer) h)
  unfolding out_step copied_by control_after
  out_stands Ack = onward_stands (ltb (s.at + s.size) s.length) refl
  out_stands (Nak cause) = denied_stands (present_of s buffer 0) cause (eqb cause 1)
  out_stands TimeOut = resent_stands (present_of s buffer 0) TimeOut (ltb s.resends 2) refl refl
  out_stands Nothing = state_out s buffer o

pub rested : (s n : Sender) (buffer : List ℕ) → Sounds s n → state_of n buffer ≡ out_of n buffer
unfolding state_of
rested s n buffer k = rw k.is (rw (sound_again s) refl)

stands_by : (s n : Sender) (buffer : List ℕ) (h : Heard) (d : Bool) → length buffer ≡ 4096 → Sounds s n → n.out ≡ d →
    state_of (control_after n buffer h (sender_step (out_of n buffer) h).told) buffer ≡ (sender_step (out_of n buffer) h).next
unfolding out_of sender_step out_step control_after
stands_by s n buffer h true long k e = rw (step_is n buffer h e) (out_stands n buffer (sounds_out k e) long h)
stands_by s n buffer h false long k e = simp e (rested s n buffer k ∙ simp e)

-- Whatever is heard, and whatever control value a caller gives.
pub control_stands : (s : Sender) (buffer : List ℕ) (h : Heard) → length buffer ≡ 4096 →
    state_of (control_after (sound_of s) buffer h (sender_step (state_of s buffer) h).told) buffer ≡ (sender_step (state_of s buffer) h).next
unfolding state_of
control_stands s buffer h long = stands_by s (sound_of s) buffer h (sound_of s).out long (record { is = refl; within = sound_within s }) refl
