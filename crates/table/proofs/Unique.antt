-- Each call's contract allows one outcome only: the answer, the table, and every byte of the room. Assumes nothing.
use Prim.Native.Nat.{ℕ}
use mathlib.Core.Path.{◌≡◌, sym, ◌∙◌}
use mathlib.Core.Bool.{Bool}
use mathlib.Core.List.{List}
use Rattle.table.specs.declared.Table.{Table}
use Rattle.std.specs.Prelude.{Result}
use Rattle.packet.specs.declared.Refusal.{Refusal}
use Rattle.table.specs.Promises.{Defaults, SetsDefaults, PowerUp, Sets, SendLengthAllowed, RequestLengthAllowed, Value, Locked, Allowed, Answers, AllPairs}

pub defaults_unique : {r r' : Table} → Defaults r → Defaults r' → r ≡ r'
defaults_unique p q = p.is ∙ sym q.is

pub set_defaults_unique : {t r r' : Table} → SetsDefaults t r → SetsDefaults t r' → r ≡ r'
set_defaults_unique p q = p.is ∙ sym q.is

pub power_up_unique : {t r r' : Table} → PowerUp t r → PowerUp t r' → r ≡ r'
power_up_unique p q = p.is ∙ sym q.is

pub set_unique : {t : Table} {bytes : List ℕ} {forever : Bool} {r r' : Result Table Refusal} → Sets t bytes forever r → Sets t bytes forever r' → r ≡ r'
set_unique p q = p.is ∙ sym q.is

pub send_length_allowed_unique : {carried : List ℕ} {r r' : Bool} → SendLengthAllowed carried r → SendLengthAllowed carried r' → r ≡ r'
send_length_allowed_unique p q = p.is ∙ sym q.is

pub request_length_allowed_unique : {carried : List ℕ} {r r' : Bool} → RequestLengthAllowed carried r → RequestLengthAllowed carried r' → r ≡ r'
request_length_allowed_unique p q = p.is ∙ sym q.is

pub value_unique : {t : Table} {number r r' : ℕ} → Value t number r → Value t number r' → r ≡ r'
value_unique p q = p.is ∙ sym q.is

pub locked_unique : {t : Table} {number : ℕ} {r r' : Bool} → Locked t number r → Locked t number r' → r ≡ r'
locked_unique p q = p.is ∙ sym q.is

pub allowed_unique : {number value : ℕ} {r r' : Bool} → Allowed number value r → Allowed number value r' → r ≡ r'
allowed_unique p q = p.is ∙ sym q.is

pub answer_unique : {t : Table} {asked room room₁ room₂ : List ℕ} {r r' : Result ℕ Refusal} → Answers t asked room r room₁ → Answers t asked room r' room₂ → (r ≡ r') × (room₁ ≡ room₂)
answer_unique p q = (p.is ∙ sym q.is, p.room_is ∙ sym q.room_is)

pub all_pairs_unique : {values r r' : List ℕ} → AllPairs values r → AllPairs values r' → r ≡ r'
all_pairs_unique p q = p.is ∙ sym q.is
