-- Demand 1 at the sender, from each call's contract alone: any control value, any buffer, any room. Assumes nothing.
use Prim.Native.Nat.{ℕ, ◌<◌}
use mathlib.Core.Path.{◌≡◌, refl, ◌∙◌}
use mathlib.Core.Bool.{Bool, true, false}
use mathlib.Core.List.{List}
use lib.Dec.{ltb}
use lib.ListN.{length}
use borrow.Author.Tests.{lt-ltb, ltb-true}
use Rattle.words.specs.Lists.{either, over}
use Rattle.packet.specs.Sizes.{packet_size, message_size}
use Rattle.packet.specs.declared.Refusal.{Refusal}
use Rattle.packet.specs.declared.Refusal.TheVariants.{Start, Room}
use Rattle.sender.specs.Pieces.{packets_of}
use Rattle.sender.specs.Sender.{waits, start_step}
use Rattle.sender.specs.Promises.{state_of, copy_of, started_of, Starts, Hears}
use Rattle.sender.specs.Refused.{start_refusal, SenderRefuses}
use Rattle.sender.specs.declared.Sender.{Sender}
use Rattle.sender.specs.declared.Sending.{Sending}
use Rattle.sender.specs.declared.Heard.{Heard}
use Rattle.sender.specs.declared.Outcome.TheVariants as outcome
use Rattle.sender.proofs.Theorems.{begun_unrefused, heard_unrefused}

module _ {s : Sender} {buffer room m : List ℕ} {code : ℕ} {r : Sending} {buffer' room' : List ℕ} {x : Refusal}
    (k : Starts s buffer room code m r buffer' room') (q : r.outcome ≡ outcome.Refused x) where
  start_by : (small late : Bool) → ltb (length room) packet_size ≡ small → either (ltb message_size (length m)) (waits (state_of s buffer)) ≡ late →
      SenderRefuses (start_refusal room) x s r.sender buffer buffer' room room'
  unfolding over started_of copy_of start_step
  start_by true late a b =
      let i = simp a at k.is in
      let f : x ≡ Room = cc in
      record { number = f ∙ simp a; control_same = cc; buffer_same = k.buffer_is ∙ simp a; room_same = k.room_is ∙ simp a }
  start_by false true a b =
      let i = simp (a, b) at k.is in
      let f : x ≡ Start = cc in
      record { number = f ∙ simp a; control_same = cc; buffer_same = k.buffer_is ∙ simp (a, b); room_same = k.room_is ∙ simp (a, b) }
  start_by false false a b =
      let i = simp (a, b) at k.is in
      absurd (begun_unrefused (packets_of code m) (state_of s buffer) {x = x} (cc))

  -- A refused start: 11 or 13.
  pub start_refuses : SenderRefuses (start_refusal room) x s r.sender buffer buffer' room room'
  start_refuses = start_by (ltb (length room) packet_size) (either (ltb message_size (length m)) (waits (state_of s buffer))) refl refl

module _ {s : Sender} {buffer room : List ℕ} {h : Heard} {r : Sending} {room' : List ℕ} {x : Refusal}
    (k : Hears s buffer room h r room') (q : r.outcome ≡ outcome.Refused x) where
  short_by : (small : Bool) → ltb (length room) packet_size ≡ small → length room < packet_size
  short_by true a = ltb-true (length room) packet_size a
  short_by false a =
      let i = simp a at k.is in
      absurd (heard_unrefused (state_of s buffer) h {x = x} (cc))

  -- An answer or a time-out is refused just where the room is smaller than a packet.
  pub hear_short : length room < packet_size
  hear_short = short_by (ltb (length room) packet_size) refl

  -- By 13, then. The message buffer is only read.
  pub hear_refuses : SenderRefuses Room x s r.sender buffer buffer room room'
  unfolding over
  hear_refuses =
      let a = lt-ltb (length room) packet_size hear_short in
      let i = simp a at k.is in
      record { number = cc; control_same = cc; buffer_same = refl; room_same = k.room_is ∙ simp a }
