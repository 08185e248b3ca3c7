-- §22: many bytes at once, as far as the framer tells nothing of them.
use Rattle.std.specs.Prelude.{ℕ, suc, ◌+◌, ◌≤◌, ◌<◌, List, [], ◌∷◌, map, ◌≡◌, eqb, length, get_or, take}
use Rattle.words.specs.Lists.{pick}
use Rattle.words.specs.Machine.{Done, through}
use Rattle.framer.specs.Framer.{Line, Heard, silent, framer_step}
use Rattle.framer.specs.Halves.{line_in, kept_in, listened_of, buffer_after}
use Rattle.framer.specs.declared.Event.{Event}
use Rattle.framer.specs.declared.Event.TheVariants.{Byte}
use Rattle.framer.specs.declared.Halves.{Halves}
use Rattle.framer.specs.declared.TakenIn.{TakenIn}

-- A line as it stands, control value and buffer, and what one event does there: what `Listens` says of it.
pub record LineAt : Type 0 where
  pub halves : Halves
  pub buffer : List ℕ

unfoldable pub listen_step : LineAt → Event → Done LineAt Heard
listen_step l e =
    record {
      next = record { halves = (listened_of l.halves l.buffer e).halves; buffer = buffer_after l.halves l.buffer e };
      told = (framer_step (line_in l.halves l.buffer) e).told;
    }

-- How many of these bytes, from the first on, the framer tells nothing of.
unfoldable pub silent_for : Line → List ℕ → ℕ
silent_for line [] = 0
silent_for line (b ∷ bs) = pick (silent (framer_step line (Byte b)).told) (suc (silent_for (framer_step line (Byte b)).next bs)) 0

-- ---- promises

-- So many bytes, one by one and in silence: what they leave where the line stands, and what that stands for.
pub record TakesIn (h : Halves) (buffer bytes : List ℕ) (r : TakenIn) (buffer' : List ℕ) : Type 0 where
  pub count_is : r.count ≡ silent_for (line_in h buffer) bytes
  pub few : r.count ≤ length bytes
  pub stands : through listen_step (record { halves = h; buffer = buffer }) (map Byte (take r.count bytes)) ≡ record { next = record { halves = r.halves; buffer = buffer' }; told = [] }
  pub line : through framer_step (line_in h buffer) (map Byte (take r.count bytes)) ≡ record { next = line_in r.halves buffer'; told = [] }
  pub kept : kept_in r.halves buffer' ≡ kept_in h buffer

-- The length byte of a packet of which n bytes stand in the line and these come.
abbrev pub length_of : ℕ → List ℕ → List ℕ → ℕ
length_of n line bytes = pick (eqb n 0) (get_or bytes 0 0) (get_or line 0 0)

pub record LengthOf (n : ℕ) (line bytes : List ℕ) (r : ℕ) : Type 0 where
  pub is : r ≡ length_of n line bytes
  pub small : r < 256

-- So many of the bytes go inside it; the next one, if there is one, ends it, or the length is too low.
pub record InsideOf (n : ℕ) (line bytes : List ℕ) (r : ℕ) : Type 0 where
  pub few : r ≤ length bytes
  pub inside : (r ≡ 0 → ⊥) → (4 ≤ length_of n line bytes) × (n + r ≤ length_of n line bytes + 1)
  pub ends : r < length bytes → (4 ≤ length_of n line bytes) → length_of n line bytes + 1 ≤ n + r
  pub small : length_of n line bytes < 256
