-- Each call's contract allows one outcome only: what is taken, every byte of the room, and where the listing then stands.
-- How the hub keeps its state in its two buffers is the hub's own matter (`Hears`). Assumes nothing.
use Prim.Native.Nat.{ℕ}
use mathlib.Core.Path.{◌≡◌, sym, ◌∙◌}
use mathlib.Core.List.{List}
use Rattle.listing.proofs.Unique.{hears_unique, put_last_unique}
use Rattle.hub_lister.specs.declared.Lister.{Lister}
use Rattle.hub_lister.specs.declared.Listed.{Listed}
use Rattle.hub_lister.specs.Promises.{reading_of, Starts, Listens, Finishes}

pub start_unique : {r r' : Lister} → Starts r → Starts r' → r ≡ r'
start_unique p q = p.is ∙ sym q.is

pub hear_unique : {l : Lister} {line gather text room : List ℕ} {r r' : Listed} {line₁ gather₁ room₁ line₂ gather₂ room₂ : List ℕ} →
    Listens l line gather text room r line₁ gather₁ room₁ → Listens l line gather text room r' line₂ gather₂ room₂ →
    (r.taken ≡ r'.taken) × (r.count ≡ r'.count) × (room₁ ≡ room₂) × (reading_of r.lister line₁ gather₁ ≡ reading_of r'.lister line₂ gather₂)
hear_unique p q = hears_unique p.hears q.hears

pub finish_unique : {l : Lister} {room room₁ room₂ : List ℕ} {r r' : ℕ} → Finishes l room r room₁ → Finishes l room r' room₂ → (r ≡ r') × (room₁ ≡ room₂)
finish_unique p q = put_last_unique p.finishes q.finishes
