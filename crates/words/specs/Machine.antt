-- The machine vocabulary: what one step does, and a run of steps over a list of inputs.
use Rattle.std.specs.Prelude.{ℕ, suc, Bool, List, [], ◌∷◌, ◌++◌}
use Rattle.words.specs.Lists.{pick}

-- The next state, and what was told on the way, in order.
pub record Done (S O : Type 0) : Type 0 where
  pub next : S
  pub told : List O

-- A step that tells these things and a run that goes on from its state: first what the step told.
unfoldable pub after : {S O : Type 0} → List O → Done S O → Done S O
after told d = record { next = d.next; told = told ++ d.told }

-- The inputs one after the other.
unfoldable pub through : {S I O : Type 0} → (S → I → Done S O) → S → List I → Done S O
through step s [] = record { next = s; told = [] }
through step s (i ∷ is) = after (step s i).told (through step (step s i).next is)

-- How many of the inputs a run takes that stops, before any of them, where all that was told so far says so.
unfoldable pub reach : {S I O : Type 0} → (S → I → Done S O) → (List O → Bool) → S → List O → List I → ℕ
reach step stops s told [] = 0
reach step stops s told (i ∷ is) = pick (stops told) 0 (suc (reach step stops (step s i).next (told ++ (step s i).told) is))

-- Bytes that go out are told; no bytes are not.
unfoldable pub given : {O : Type 0} → (List ℕ → O) → List ℕ → List O
given tells [] = []
given tells (b ∷ bs) = tells (b ∷ bs) ∷ []
