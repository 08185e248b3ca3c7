-- Each call's contract allows one outcome only: the answer, the table, and every byte of the room. Assumes nothing.
use Prim.Native.Nat.{ℕ}
use mathlib.Core.Path.{◌≡◌, sym, ◌∙◌}
use mathlib.Core.Bool.{Bool}
use mathlib.Core.List.{List}
use Rattle.table.specs.declared.Table.{Table}
use Rattle.std.specs.Prelude.{Result}
use Rattle.packet.specs.declared.Refusal.{Refusal}
use Rattle.saved.specs.Promises.{Saves, Loads, AllAllowed}

pub save_unique : {t : Table} {room room₁ room₂ : List ℕ} {r r' : Result ℕ Refusal} → Saves t room r room₁ → Saves t room r' room₂ → (r ≡ r') × (room₁ ≡ room₂)
save_unique p q = (p.is ∙ sym q.is, p.room_is ∙ sym q.room_is)

pub load_unique : {form : List ℕ} {r r' : Result Table Refusal} → Loads form r → Loads form r' → r ≡ r'
load_unique p q = p.is ∙ sym q.is

pub all_allowed_unique : {values : List ℕ} {r r' : Bool} → AllAllowed values r → AllAllowed values r' → r ≡ r'
all_allowed_unique p q = p.is ∙ sym q.is
