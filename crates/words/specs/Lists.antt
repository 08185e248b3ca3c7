-- The list vocabulary of every contract: lent rooms, parts put back, bytes, and the choice by a test.
use Rattle.std.specs.Prelude.{ℕ, ◌<◌, Bool, true, false, List, [], ◌∷◌, ◌++◌, ◌≡◌, eqb, length, get_or, take, drop}

-- The first where the test holds, else the second.
abbrev pub pick {ℓ} : {A : Type ℓ} → Bool → A → A → A
pick true a b = a
pick false a b = b

-- Both tests hold; one of the tests holds.
abbrev pub both : Bool → Bool → Bool
both a b = pick a b false

abbrev pub either : Bool → Bool → Bool
either a b = pick a true b

-- Every element is a byte.
pub record Bytes (s : List ℕ) : Type 0 where
  pub each : (i : ℕ) → get_or s i 0 < 256

-- A byte widened: the same number, still below 256.
pub record Wide (b r : ℕ) : Type 0 where
  pub is : r ≡ b
  pub small : r < 256

-- A room afterwards: the bytes written at its front, then the rest of the room as it was.
unfoldable pub over : List ℕ → List ℕ → List ℕ
over p room = p ++ drop (length p) room

-- As the promise of a function that was lent the room.
pub record Over (p room room' : List ℕ) : Type 0 where
  pub is : room' ≡ over p room

-- The same for as much as the room holds.
pub record Copied (from room room' : List ℕ) : Type 0 where
  pub is : room' ≡ over (take (length room) from) room

-- The same with the bytes written from a place on.
unfoldable pub over_at : ℕ → List ℕ → List ℕ → List ℕ
over_at at p room = take at room ++ over p (drop at room)

-- Two lists hold the same bytes.
unfoldable pub same_bytes : List ℕ → List ℕ → Bool
same_bytes [] [] = true
same_bytes [] (y ∷ ys) = false
same_bytes (x ∷ xs) [] = false
same_bytes (x ∷ xs) (y ∷ ys) = both (eqb x y) (same_bytes xs ys)

-- As the promise of a comparison.
pub record Compared (a b : List ℕ) (r : Bool) : Type 0 where
  pub is : r ≡ same_bytes a b

-- Every element of a list is such.
pub data Each {A : Type 0} (P : A → Type 0) : List A → Type 0 where
  none : Each P []
  one : {x : A} {xs : List A} → P x → Each P xs → Each P (x ∷ xs)
