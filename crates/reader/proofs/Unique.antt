-- Each call's contract allows one outcome only: what is told, the control value, every byte of the buffers and rooms. Assumes nothing.
use Prim.Native.Nat.{ℕ}
use mathlib.Core.Path.{◌≡◌, sym, ap, ◌∙◌}
use mathlib.Core.List.{List}
use Rattle.framer.specs.declared.Event.{Event}
use Rattle.sender.proofs.Unique as sending
use Rattle.table.specs.declared.Table.{Table}
use Rattle.reader.specs.Promises.{SwitchedOn, PowersUp, Loads, WithTable, started_of, Starts, TimesOut, Hears}
use Rattle.reader.specs.declared.Reader.{Reader}
use Rattle.packet.specs.declared.Refusal.{Refusal}
use Rattle.std.proofs.Common.{Result}
use Rattle.reader.specs.declared.Started.{Started}
use Rattle.reader.specs.declared.Taken.{Taken}

pub switched_on_unique : {t : Table} {r r' : Reader} → SwitchedOn t r → SwitchedOn t r' → r ≡ r'
switched_on_unique p q = p.is ∙ sym q.is

pub power_up_unique : {reader r r' : Reader} → PowersUp reader r → PowersUp reader r' → r ≡ r'
power_up_unique p q = p.is ∙ sym q.is

pub load_unique : {reader : Reader} {form : List ℕ} {r r' : Result Reader Refusal} → Loads reader form r → Loads reader form r' → r ≡ r'
load_unique p q = p.is ∙ sym q.is

pub with_table_unique : {reader r r' : Reader} {t : Table} → WithTable reader t r → WithTable reader t r' → r ≡ r'
with_table_unique p q = p.is ∙ sym q.is

pub start_unique : {reader : Reader} {message copy bytes message₁ copy₁ message₂ copy₂ : List ℕ} {code : ℕ} {r r' : Started} →
    Starts reader message copy code bytes r message₁ copy₁ → Starts reader message copy code bytes r' message₂ copy₂ →
    (r ≡ r') × (message₁ ≡ message₂) × (copy₁ ≡ copy₂)
start_unique {reader} p q =
    let s = sending.start_unique p.starts q.starts in
    (p.is ∙ (ap (started_of reader) s.0 ∙ sym q.is), s.1, s.2)

pub time_out_unique : {reader : Reader} {message copy copy₁ copy₂ : List ℕ} {r r' : Started} →
    TimesOut reader message copy r copy₁ → TimesOut reader message copy r' copy₂ → (r ≡ r') × (copy₁ ≡ copy₂)
time_out_unique {reader} p q =
    let s = sending.hear_unique p.hears q.hears in
    (p.is ∙ (ap (started_of reader) s.0 ∙ sym q.is), s.1)

pub hear_unique : {reader : Reader} {line answers message answer copy line₁ answers₁ answer₁ copy₁ line₂ answers₂ answer₂ copy₂ : List ℕ} {e : Event} {r r' : Taken} →
    Hears reader line answers message answer copy e r line₁ answers₁ answer₁ copy₁ →
    Hears reader line answers message answer copy e r' line₂ answers₂ answer₂ copy₂ →
    (r ≡ r') × (line₁ ≡ line₂) × (answers₁ ≡ answers₂) × (answer₁ ≡ answer₂) × (copy₁ ≡ copy₂)
hear_unique p q = (
  p.is ∙ sym q.is,
  p.line_is ∙ sym q.line_is,
  p.answers_is ∙ sym q.answers_is,
  p.answer_is ∙ sym q.answer_is,
  p.copy_is ∙ sym q.copy_is,
)
