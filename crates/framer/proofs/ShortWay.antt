-- `framer::go_on` beside `framer::listen`: where it goes on, it leaves what `listen` leaves. And what callers ask of a silent event. Assumes nothing.
use mathlib.Core.Path.{◌≡◌, refl, ap}
use mathlib.Core.Bool.{Bool, true}
use mathlib.Core.List.{List, [], ◌∷◌}
use Prim.Native.Nat.{ℕ}
use Rattle.words.proofs.Lists.{never}
use Rattle.framer.specs.Framer.{Heard, silent}
use Rattle.framer.specs.Halves.{halves_with, Listens, GoesOn, on, left}
use Rattle.framer.specs.declared.Event.{Event}
use Rattle.framer.specs.declared.Framer.{Framer}
use Rattle.framer.specs.declared.Found.TheVariants.{Nothing}
use Rattle.framer.specs.declared.Listened.{Listened}
use Rattle.framer.specs.declared.Going.{Going}
use Rattle.framer.specs.declared.Going.TheVariants.{Left}
use Rattle.framer.proofs.Unique.{listen_unique}

-- Whatever `listen` does with an event that was not left is that: nothing found, and these bytes.
pub short_way_listens : {f : Framer} {second : Bool} {g : Going} {last : ℕ} {buffer buffer₁ buffer' : List ℕ} {e : Event} {r : Listened} → GoesOn f second buffer e g buffer₁ → (g ≡ Left → ⊥) →
    Listens (halves_with f second last) buffer e r buffer' → (r.found ≡ Nothing) × (buffer' ≡ buffer₁)
short_way_listens {last = last} (on s t q k) h l = let u = listen_unique l (k last) in (ap (λ (x : Listened). x.found) u.0, u.1)
short_way_listens (left q k) h l = absurd (h refl)

-- What it left it has not touched.
pub short_way_left : {f : Framer} {second : Bool} {buffer buffer' : List ℕ} {e : Event} → GoesOn f second buffer e Left buffer' → buffer' ≡ buffer
short_way_left (on s t q k) = absurd (s refl)
short_way_left (left q k) = k

pub silent_told : (hs : List Heard) → silent hs ≡ true → hs ≡ []
unfolding silent
silent_told [] q = refl
silent_told (h ∷ hs) q = never (cc)
