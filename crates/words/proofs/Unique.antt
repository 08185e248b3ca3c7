-- Each call's contract allows one outcome only. Assumes nothing.
use Prim.Native.Nat.{ℕ}
use mathlib.Core.Path.{◌≡◌, sym, ◌∙◌}
use mathlib.Core.Bool.{Bool}
use mathlib.Core.List.{List}
use Rattle.words.specs.Lists.{Wide, Copied, Compared}

pub wide_unique : {b r r' : ℕ} → Wide b r → Wide b r' → r ≡ r'
wide_unique p q = p.is ∙ sym q.is

pub copy_unique : {from room room₁ room₂ : List ℕ} → Copied from room room₁ → Copied from room room₂ → room₁ ≡ room₂
copy_unique p q = p.is ∙ sym q.is

pub same_unique : {a b : List ℕ} {r r' : Bool} → Compared a b r → Compared a b r' → r ≡ r'
same_unique p q = p.is ∙ sym q.is
