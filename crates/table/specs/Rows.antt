-- §12: the allowed settings, rows of four numbers: parameter, lowest, highest, house default.
use Rattle.std.specs.Prelude.{ℕ, suc, ◌+◌, ◌*◌, Bool, not, List, [], ◌∷◌, eqb, ltb, leb, get_or}
use Rattle.words.specs.Lists.{pick, both, either}

-- How many there are.
abbrev pub parameter_count : ℕ
parameter_count = 9

-- The longest data of an answer: the beep byte, and number and value of each parameter.
abbrev pub pairs_size : ℕ
pairs_size = 1 + 2 * parameter_count

unfoldable pub rows : List (List ℕ)
rows =
    (0x80 ∷ 0 ∷ 1 ∷ 0 ∷ [])
    ∷ (0x89 ∷ 0 ∷ 99 ∷ 10 ∷ [])
    ∷ (0x8A ∷ 0 ∷ 8 ∷ 0 ∷ [])
    ∷ (0x9B ∷ 0 ∷ 99 ∷ 20 ∷ [])
    ∷ (0x9C ∷ 1 ∷ 7 ∷ 6 ∷ [])
    ∷ (0x9E ∷ 0 ∷ 4 ∷ 4 ∷ [])
    ∷ (0x9F ∷ 0 ∷ 1 ∷ 1 ∷ [])
    ∷ (0xED ∷ 0 ∷ 99 ∷ 0 ∷ [])
    ∷ (0xEE ∷ 0 ∷ 1 ∷ 1 ∷ [])
    ∷ []

-- Where a parameter stands among some rows; behind the last where it has none.
unfoldable pub place_in : List (List ℕ) → ℕ → ℕ
place_in [] number = 0
place_in (row ∷ rest) number = pick (eqb (get_or row 0 0) number) 0 (suc (place_in rest number))

abbrev pub place_of : ℕ → ℕ
place_of number = place_in rows number

unfoldable pub supported : ℕ → Bool
supported number = ltb (place_of number) parameter_count

-- 8Ah takes only 0, 2, 4, 7, 8.
unfoldable pub trigger_allowed : ℕ → Bool
trigger_allowed value = either (eqb value 0) (either (eqb value 2) (either (eqb value 4) (either (eqb value 7) (eqb value 8))))

unfoldable pub range_allowed : List ℕ → ℕ → Bool
range_allowed row value = both (leb (get_or row 1 0) value) (leb value (get_or row 2 0))

-- What a row takes.
unfoldable pub row_allows : List ℕ → ℕ → Bool
row_allows row value = both (range_allowed row value) (either (not (eqb (get_or row 0 0) 0x8A)) (trigger_allowed value))

unfoldable pub allowed : ℕ → ℕ → Bool
allowed number value = both (supported number) (row_allows (get_or rows (place_of number) []) value)

-- The house defaults, in the rows' order.
unfoldable pub defaults_of : List (List ℕ) → List ℕ
defaults_of [] = []
defaults_of (row ∷ rest) = get_or row 3 0 ∷ defaults_of rest
