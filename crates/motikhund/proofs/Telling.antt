-- Events and answers as numbers: what each return of the code gives. Assumes nothing.
use Prim.Native.Nat.{ℕ, ◌<◌, ◌≤◌}
use mathlib.Core.Path.{◌≡◌, refl, ap}
use mathlib.Core.Bool.{Bool}
use mathlib.Core.List.{List, [], ◌∷◌, ◌++◌}
use native.Mathlib.Omega.{arith}
use lib.ListN.{get_or}
use borrow.Author.Tests.{lt-ltb, le-ltb, eq-eqb, ne_eqb}
use Rattle.std.proofs.Common.{Some, None}
use Rattle.packet.specs.declared.Reply.TheVariants as reply
use Rattle.framer.specs.declared.Event.TheVariants.{Byte, CharacterGap, MessageGap}
use Rattle.reader.specs.declared.Told.{Told as Commanded}
use Rattle.reader.specs.declared.Told.TheVariants as commanded
use Rattle.sender.specs.declared.Outcome.{Outcome}
use Rattle.sender.specs.declared.Heard.{Heard}
use Rattle.sender.specs.declared.Heard.TheVariants as heard
use Rattle.motikhund.specs.Control.{flag_byte}
use Rattle.motikhund.specs.Numbers.{event_of, heard_of, heard_number, reply_of, reader_row, reader_values, EventOf, HeardOf, ReplyOf, OutcomeValue, ReaderRow, ReaderValues}

-- ---- an event

pub event_byte : {n : ℕ} → n < 256 → EventOf n (Byte n)
unfolding event_of
event_byte {n} h = record { is = simp (lt-ltb n 256 h) }

pub event_gap : {n : ℕ} → n ≡ 256 → EventOf n CharacterGap
unfolding event_of
event_gap {n} e = record { is = simp (le-ltb n 256 (omega arith), eq-eqb n 256 e) }

pub event_message_gap : {n : ℕ} → 256 ≤ n → (n ≡ 256 → ⊥) → EventOf n MessageGap
unfolding event_of
event_message_gap {n} h e = record { is = simp (le-ltb n 256 h, ne_eqb n 256 e) }

-- ---- what a sender hears

pub heard_nak : {n : ℕ} → n < 256 → HeardOf n (heard.Nak n)
unfolding heard_of
heard_nak {n} h = record { is = simp (lt-ltb n 256 h) }

pub heard_ack : {n : ℕ} → n ≡ 256 → HeardOf n heard.Ack
unfolding heard_of
heard_ack {n} e = record { is = simp (le-ltb n 256 (omega arith), eq-eqb n 256 e) }

pub heard_time_out : {n : ℕ} → n ≡ 257 → HeardOf n heard.TimeOut
unfolding heard_of
heard_time_out {n} e = record { is = simp (le-ltb n 256 (omega arith), ne_eqb n 256 (λ z. omega arith), eq-eqb n 257 e) }

pub heard_nothing : {n : ℕ} → 256 ≤ n → (n ≡ 256 → ⊥) → (n ≡ 257 → ⊥) → HeardOf n heard.Nothing
unfolding heard_of
heard_nothing {n} h a t = record { is = simp (le-ltb n 256 h, ne_eqb n 256 a, ne_eqb n 257 t) }

-- The number of what is heard reads as that again, for a cause that is a byte.
pub heard_back : (h : Heard) → ((cause : ℕ) → h ≡ heard.Nak cause → cause < 256) → heard_of (heard_number h) ≡ h
unfolding heard_of
heard_back heard.Ack l = refl
heard_back (heard.Nak cause) l = simp (lt-ltb cause 256 (l cause refl))
heard_back heard.TimeOut l = refl
heard_back heard.Nothing l = refl

-- ---- a reply

pub reply_nak : {n : ℕ} → n < 256 → ReplyOf n (reply.Nak n)
unfolding reply_of
reply_nak {n} h = record { is = simp (lt-ltb n 256 h) }

pub reply_ack : {n : ℕ} → 256 ≤ n → ReplyOf n reply.Ack
unfolding reply_of
reply_ack {n} h = record { is = simp (le-ltb n 256 h) }

-- ---- what the reader told

-- A row has three numbers.
three_of : (t : Commanded) (rest : List ℕ) → get_or (reader_row t) 0 0 ∷ get_or (reader_row t) 1 0 ∷ get_or (reader_row t) 2 0 ∷ rest ≡ reader_row t ++ rest
three_of commanded.Nothing rest = refl
three_of (commanded.Refused r) rest = refl
three_of (commanded.Acted None) rest = refl
three_of (commanded.Acted (Some beep)) rest = refl
three_of commanded.Repeated rest = refl

pub reader_values_lem : {t : Commanded} {o : Outcome} {changed : Bool} {answer value permanent : ℕ} {row : List ℕ} → ReaderRow t row → OutcomeValue o value → permanent ≡ flag_byte changed →
    ReaderValues t answer o changed (answer ∷ get_or row 0 0 ∷ get_or row 1 0 ∷ get_or row 2 0 ∷ value ∷ permanent ∷ [])
unfolding reader_values
reader_values_lem {t} {answer = answer} {value} {permanent} k v f =
    record { is = rw (k.is, ← v.is, ← f) (ap (λ (s : List ℕ). answer ∷ s) (three_of t (value ∷ permanent ∷ []))) }
