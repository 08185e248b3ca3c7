-- §16, the lines of a listing: a capital letter, the bytes, each two capital hex digits after a space, a line feed.
use Rattle.std.specs.Prelude.{ℕ, ◌+◌, ◌/◌, ◌%◌, List, [], ◌∷◌, ◌++◌, ltb, leb, length}
use Rattle.words.specs.Lists.{pick}

-- The capital digit of a number below 16.
unfoldable pub capital_of : ℕ → ℕ
capital_of n = pick (ltb n 10) (48 + n) (55 + n)

unfoldable pub hex_byte : ℕ → List ℕ
hex_byte b = 32 ∷ capital_of (b / 16) ∷ capital_of (b % 16) ∷ []

unfoldable pub hex_bytes : List ℕ → List ℕ
hex_bytes [] = []
hex_bytes (b ∷ bs) = hex_byte b ++ hex_bytes bs

unfoldable pub line_of : ℕ → List ℕ → List ℕ
line_of letter bytes = letter ∷ (hex_bytes bytes ++ (10 ∷ []))

-- `A` and the bytes of an answer; nothing where none goes out.
unfoldable pub answer_line : List ℕ → List ℕ
answer_line [] = []
answer_line (b ∷ bs) = line_of 65 (b ∷ bs)

-- `E`.
unfoldable pub error_line : List ℕ
error_line = line_of 69 []

-- What is put from a place of a room on: all of it where it fits, else nothing.
unfoldable pub fitting : List ℕ → ℕ → List ℕ → List ℕ
fitting p at room = pick (leb (at + length p) (length room)) p []
