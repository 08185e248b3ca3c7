-- One law for each answer of the small functions around the joining: tests, the control value, and what goes out. Assumes nothing.
use Prim.Native.Nat.{ℕ, ◌≤◌}
use mathlib.Core.Path.{◌≡◌, refl, ◌∙◌}
use mathlib.Core.List.{List, [], ◌∷◌}
use lib.ListN.{length}
use Rattle.std.specs.Prelude.{Result, Ok, Err}
use Rattle.words.specs.Lists.{Each, none, one}
use Rattle.words.specs.Machine.{given}
use Rattle.packet.specs.Opcodes.{host}
use Rattle.packet.specs.Packet.{seal, source_allowed, reply_body}
use Rattle.packet.specs.Refusals.{nak_bytes}
use Rattle.packet.specs.Promises.{Answer, Naks, SizeOf}
use Rattle.packet.specs.declared.Refusal.{Refusal}
use Rattle.packet.specs.declared.Reply.TheVariants.{Ack}
use Rattle.packet.proofs.Writing.{reply_written, reply_never, nak_length, nak_never}
use Rattle.hub.specs.Joiner.{Output, answered, refusing}
use Rattle.hub.specs.Promises.{answer_of, message_of, hub_answer_size, Writes}

-- ---- what goes out

-- With room enough ACK and NAK are never refused.
pub acknowledges : {room room' : List ℕ} {r : Result ℕ Refusal} {n : ℕ} → hub_answer_size ≤ length room → Answer room host Ack r room' → SizeOf r n → Writes (seal (reply_body host Ack)) room n room'
unfolding source_allowed
acknowledges {r = Ok m} h k c = let w = reply_written refl h k refl in record { is = c.is ∙ w.0; answer_is = w.1 }
acknowledges {r = Err x} h k c = absurd (reply_never refl h k refl)

pub refuses_nak : {room room' : List ℕ} {x : Refusal} {r : Result ℕ Refusal} {n : ℕ} → hub_answer_size ≤ length room → Naks room host x r room' → SizeOf r n → Writes (nak_bytes host x) room n room'
unfolding source_allowed
refuses_nak {r = Ok m} h k c = let w = nak_length refl h k refl in record { is = c.is ∙ w.0; answer_is = w.1 }
refuses_nak {r = Err x} h k c = absurd (nak_never refl h k refl)

-- ---- what is told of a refusal

-- Behind a refusal its NAK is told, if there is one, and nothing else.
pub each_given : {P : Output → Type 0} → ((bytes : List ℕ) → P (answered bytes)) → (b : List ℕ) → Each P (given answered b)
unfolding given
each_given p [] = none
each_given p (x ∷ xs) = one (p (x ∷ xs)) none

answer_given : (b : List ℕ) → answer_of (given answered b) ≡ b
unfolding given answer_of
answer_given [] = refl
answer_given (x ∷ xs) = refl

message_given : (b : List ℕ) → message_of (given answered b) ≡ []
unfolding given message_of
message_given [] = refl
message_given (x ∷ xs) = refl

pub refusing_answers : (x : Refusal) → answer_of (refusing x) ≡ nak_bytes host x
unfolding answer_of
refusing_answers x = answer_given (nak_bytes host x)

pub refusing_hands_out : (x : Refusal) → message_of (refusing x) ≡ []
unfolding message_of
refusing_hands_out x = message_given (nak_bytes host x)
