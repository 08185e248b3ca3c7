-- Each call's contract allows one outcome only: the answer, and every byte of the room. Assumes nothing.
use Prim.Native.Nat.{ℕ}
use mathlib.Core.Path.{◌≡◌, sym, ap, ◌∙◌}
use mathlib.Core.Bool.{Bool}
use mathlib.Core.List.{List}
use Rattle.words.specs.Lists.{over}
use Rattle.packet.specs.declared.Refusal.{Refusal}
use Rattle.std.specs.Prelude.{Result}
use Rattle.packet.specs.declared.Head.{Head}
use Rattle.packet.specs.declared.Reply.{Reply}
use Rattle.packet.specs.Packet.{written}
use Rattle.packet.specs.Promises.{Number, Cause, Check, DataPart, Allowed, AllowedSource, SizeOf, Build, Fill, Answer, Naks, Equal, Resent, IsAnswer}

pub number_unique : {x : Refusal} {r r' : ℕ} → Number x r → Number x r' → r ≡ r'
number_unique p q = p.is ∙ sym q.is

pub cause_unique : {x : Refusal} {r r' : ℕ} → Cause x r → Cause x r' → r ≡ r'
cause_unique p q = p.is ∙ sym q.is

pub check_unique : {s : List ℕ} {r r' : Result Head Refusal} → Check s r → Check s r' → r ≡ r'
check_unique p q = p.is ∙ sym q.is

pub data_part_unique : {s r r' : List ℕ} → DataPart s r → DataPart s r' → r ≡ r'
data_part_unique p q = p.is ∙ sym q.is

pub status_allowed_unique : {o t : ℕ} {r r' : Bool} → Allowed o t r → Allowed o t r' → r ≡ r'
status_allowed_unique p q = p.is ∙ sym q.is

pub source_allowed_unique : {s : ℕ} {r r' : Bool} → AllowedSource s r → AllowedSource s r' → r ≡ r'
source_allowed_unique p q = p.is ∙ sym q.is

pub equal_unmarked_unique : {a b : List ℕ} {r r' : Bool} → Equal a b r → Equal a b r' → r ≡ r'
equal_unmarked_unique p q = p.is ∙ sym q.is

pub resent_equal_unique : {last body : List ℕ} {r r' : Bool} → Resent last body r → Resent last body r' → r ≡ r'
resent_equal_unique p q = p.is ∙ sym q.is

pub is_answer_unique : {o : ℕ} {r r' : Bool} → IsAnswer o r → IsAnswer o r' → r ≡ r'
is_answer_unique p q = p.is ∙ sym q.is

pub size_of_unique : {b : Result ℕ Refusal} {r r' : ℕ} → SizeOf b r → SizeOf b r' → r ≡ r'
size_of_unique p q = p.is ∙ sym q.is

-- What is written follows from the answer, for the calls that write.
written_unique : {r r' : Result ℕ Refusal} {room₁ room₂ : List ℕ} (room packet : List ℕ) → r ≡ r' → room₁ ≡ over (written r packet) room → room₂ ≡ over (written r' packet) room → room₁ ≡ room₂
written_unique room packet e p q = p ∙ (ap (λ (r : Result ℕ Refusal). over (written r packet) room) e ∙ sym q)

pub build_unique : {room d room₁ room₂ : List ℕ} {o s t : ℕ} {r r' : Result ℕ Refusal} → Build room o s t d r room₁ → Build room o s t d r' room₂ → (r ≡ r') × (room₁ ≡ room₂)
build_unique {room} p q = let e = p.is ∙ sym q.is in (e, written_unique room _ e p.room_is q.room_is)

pub fill_unique : {room room₁ room₂ : List ℕ} {o s t n : ℕ} {r r' : Result ℕ Refusal} → Fill room o s t n r room₁ → Fill room o s t n r' room₂ → (r ≡ r') × (room₁ ≡ room₂)
fill_unique {room} p q = let e = p.is ∙ sym q.is in (e, written_unique room _ e p.room_is q.room_is)

pub answer_unique : {room room₁ room₂ : List ℕ} {s : ℕ} {y : Reply} {r r' : Result ℕ Refusal} → Answer room s y r room₁ → Answer room s y r' room₂ → (r ≡ r') × (room₁ ≡ room₂)
answer_unique {room} p q = let e = p.is ∙ sym q.is in (e, written_unique room _ e p.room_is q.room_is)

pub nak_unique : {room room₁ room₂ : List ℕ} {s : ℕ} {x : Refusal} {r r' : Result ℕ Refusal} → Naks room s x r room₁ → Naks room s x r' room₂ → (r ≡ r') × (room₁ ≡ room₂)
nak_unique {room} p q = let e = p.is ∙ sym q.is in (e, written_unique room _ e p.room_is q.room_is)
