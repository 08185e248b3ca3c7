-- §13: duration, pitch and number of beeps for each beep code, and which codes are allowed. Durations and pitches are numbered as
-- the table there first uses them. Durations: 0 short, 1 long, 2 fast warble, 3 slow warble, 4 to 7 mix 1 to mix 4, 8 high click, 9 low click.
-- Pitches: 0 high, 1 low, 2 high-low-high-low, 3 high-low, 4 low-high, 5 high-low-high, 6 low-high-low, 7 high-high-low-low,
-- 8 high-high-high, 9 low click.
use Rattle.std.specs.Prelude.{ℕ, Bool, List, [], ◌∷◌, leb, eqb, get_or}
use Rattle.words.specs.Lists.{either}

unfoldable pub beep_rows : List (List ℕ)
beep_rows =
    (0 ∷ 0 ∷ 1 ∷ [])
    ∷ (0 ∷ 0 ∷ 2 ∷ [])
    ∷ (0 ∷ 0 ∷ 3 ∷ [])
    ∷ (0 ∷ 0 ∷ 4 ∷ [])
    ∷ (0 ∷ 0 ∷ 5 ∷ [])
    ∷ (0 ∷ 1 ∷ 1 ∷ [])
    ∷ (0 ∷ 1 ∷ 2 ∷ [])
    ∷ (0 ∷ 1 ∷ 3 ∷ [])
    ∷ (0 ∷ 1 ∷ 4 ∷ [])
    ∷ (0 ∷ 1 ∷ 5 ∷ [])
    ∷ (1 ∷ 0 ∷ 1 ∷ [])
    ∷ (1 ∷ 0 ∷ 2 ∷ [])
    ∷ (1 ∷ 0 ∷ 3 ∷ [])
    ∷ (1 ∷ 0 ∷ 4 ∷ [])
    ∷ (1 ∷ 0 ∷ 5 ∷ [])
    ∷ (1 ∷ 1 ∷ 1 ∷ [])
    ∷ (1 ∷ 1 ∷ 2 ∷ [])
    ∷ (1 ∷ 1 ∷ 3 ∷ [])
    ∷ (1 ∷ 1 ∷ 4 ∷ [])
    ∷ (1 ∷ 1 ∷ 5 ∷ [])
    ∷ (2 ∷ 2 ∷ 4 ∷ [])
    ∷ (3 ∷ 2 ∷ 4 ∷ [])
    ∷ (4 ∷ 3 ∷ 2 ∷ [])
    ∷ (5 ∷ 4 ∷ 2 ∷ [])
    ∷ (6 ∷ 5 ∷ 3 ∷ [])
    ∷ (7 ∷ 6 ∷ 3 ∷ [])
    ∷ (1 ∷ 7 ∷ 4 ∷ [])
    ∷ (0 ∷ 8 ∷ 13 ∷ [])
    ∷ (8 ∷ 0 ∷ 1 ∷ [])
    ∷ (9 ∷ 9 ∷ 1 ∷ [])
    ∷ []

-- Codes 00h to 1Dh are allowed.
abbrev pub beep_limit : ℕ
beep_limit = 0x1D

unfoldable pub beep_allowed : ℕ → Bool
beep_allowed code = leb code beep_limit

-- In PARAM_SEND also FFh, no beep.
unfoldable pub send_beep_allowed : ℕ → Bool
send_beep_allowed code = either (eqb code 0xFF) (beep_allowed code)

unfoldable pub row_of : ℕ → List ℕ
row_of code = get_or beep_rows code []
