-- Each call's contract allows one outcome only: the answer, the control value, every byte of buffer and room. Assumes nothing.
use Prim.Native.Nat.{ℕ}
use mathlib.Core.Path.{◌≡◌, sym, ◌∙◌}
use mathlib.Core.Bool.{Bool}
use mathlib.Core.List.{List, []}
use Rattle.sender.specs.Promises.{Waits, Idle, Starts, Hears, Heeds}
use Rattle.sender.specs.declared.Heard.{Heard}
use Rattle.sender.specs.declared.Sender.{Sender}
use Rattle.sender.specs.declared.Sending.{Sending}

pub idle_unique : {f : Bool} {r r' : Sender} → Idle f r → Idle f r' → r ≡ r'
idle_unique p q = p.is ∙ sym q.is

pub start_unique : {s : Sender} {buffer room m buffer₁ buffer₂ room₁ room₂ : List ℕ} {code : ℕ} {r r' : Sending} →
    Starts s buffer room code m r buffer₁ room₁ → Starts s buffer room code m r' buffer₂ room₂ → (r ≡ r') × (buffer₁ ≡ buffer₂) × (room₁ ≡ room₂)
start_unique p q = (p.is ∙ sym q.is, p.buffer_is ∙ sym q.buffer_is, p.room_is ∙ sym q.room_is)

pub hear_unique : {s : Sender} {buffer room room₁ room₂ : List ℕ} {h : Heard} {r r' : Sending} →
    Hears s buffer room h r room₁ → Hears s buffer room h r' room₂ → (r ≡ r') × (room₁ ≡ room₂)
hear_unique p q = (p.is ∙ sym q.is, p.room_is ∙ sym q.room_is)

pub heed_unique : {heeded opcode source status : ℕ} {carried : List ℕ} {r r' : Heard} → Heeds heeded opcode source status carried r → Heeds heeded opcode source status carried r' → r ≡ r'
heed_unique p q = p.is ∙ sym q.is

pub waits_unique : {s : Sender} {r r' : Bool} → Waits s r → Waits s r' → r ≡ r'
waits_unique p q = p.is [] ∙ sym (q.is [])
