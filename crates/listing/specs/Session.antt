-- What a program does with a listing: a start, then calls that each take characters of a text and put the lines due for them into a room.
use Rattle.std.specs.Prelude.{ℕ, suc, ◌-◌, ◌≤◌, Bool, not, List, [], ◌∷◌, ◌++◌, ◌≡◌, leb, length, take}
use Rattle.words.specs.Lists.{pick, both, over}
use Rattle.words.specs.Machine.{through}
use Rattle.listing.specs.Listing.{Reading, Acts, starting, list_step}

-- Whether one more character is taken: the listing has not ended, and what is left of the room holds the most that its lines can have.
unfoldable pub goes_on : ℕ → Bool → ℕ → Bool
goes_on most ended left = both (not ended) (leb most left)

-- How many characters of a text are taken, with so many bytes left of the room.
unfoldable pub taken_of : {S : Type 0} → Acts S → ℕ → Reading S → ℕ → List ℕ → ℕ
taken_of acts most s left [] = 0
taken_of acts most s left (c ∷ cs) =
    pick (goes_on most s.ended left) (suc (taken_of acts most (list_step acts s c).next (left - length (list_step acts s c).told) cs)) 0

-- One call: how many characters it takes, where the listing then stands, and every byte of the room.
pub record Hears {S : Type 0} (acts : Acts S) (most : ℕ) (s : Reading S) (text room : List ℕ) (taken count : ℕ) (s' : Reading S) (room' : List ℕ) : Type 0 where
  pub taken_is : taken ≡ taken_of acts most s (length room) text
  pub next : s' ≡ (through (list_step acts) s (take taken text)).next
  pub count_is : count ≡ length (through (list_step acts) s (take taken text)).told
  pub room_is : room' ≡ over (through (list_step acts) s (take taken text)).told room
  pub within : taken ≤ length text
  pub inside : count ≤ length room

-- The characters taken so far, the lines written for them, and where the listing stands. Each call may take a part of its text.
pub data Session {S : Type 0} (acts : Acts S) (most : ℕ) (start : S) : List ℕ → List ℕ → Reading S → Type 0 where
  begun : Session acts most start [] [] (starting start)
  more : {taken written : List ℕ} {s : Reading S} {text room : List ℕ} {n count : ℕ} {s' : Reading S} {room' : List ℕ} →
      Session acts most start taken written s → Hears acts most s text room n count s' room' →
      Session acts most start (taken ++ take n text) (written ++ take count room') s'

-- A listing that stands where some session has left it.
pub record Ran {S : Type 0} (acts : Acts S) (most : ℕ) (start : S) (s : Reading S) : Type 0 where
  pub taken : List ℕ
  pub written : List ℕ
  pub session : Session acts most start taken written s
