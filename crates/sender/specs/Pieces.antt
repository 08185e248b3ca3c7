-- §8: how a message is cut into packets.
use Rattle.std.specs.Prelude.{ℕ, zero, suc, ◌+◌, ◌-◌, ◌*◌, ◌<◌, ◌≡◌, false, List, [], ◌∷◌, ltb, leb, length, take, drop}
use Rattle.words.specs.Lists.{pick, same_bytes}
use Rattle.packet.specs.Opcodes.{reader, decode_data}
use Rattle.packet.specs.Packet.{body_of}

-- The data of a packet without the code type.
abbrev pub piece_size : ℕ
piece_size = 250

-- A piece that is cut one byte shorter.
abbrev pub cut_size : ℕ
cut_size = piece_size - 1

-- How many bytes of the rest the next piece holds, behind the piece before it (no bytes: there is none): all where they fit, and this piece is the
-- last; else a full piece, or one byte less where that would equal the one before.
unfoldable pub next_size : List ℕ → List ℕ → ℕ
next_size before rest =
    pick (leb (length rest) piece_size) (length rest) (pick (same_bytes before (take piece_size rest)) cut_size piece_size)

-- The pieces of the rest, behind the piece before it. k bounds how many more there can be.
unfoldable pub cut_by : ℕ → List ℕ → List ℕ → List (List ℕ)
cut_by zero before rest = rest ∷ []
cut_by (suc k) before rest =
    let n = next_size before rest in
    pick (ltb n (length rest)) (take n rest ∷ cut_by k (take n rest) (drop n rest)) (rest ∷ [])

unfoldable pub pieces_from : List ℕ → List ℕ → List (List ℕ)
pieces_from before rest = cut_by (length rest) before rest

-- An empty message is one piece.
unfoldable pub pieces_of : List ℕ → List (List ℕ)
pieces_of m = pieces_from [] m

-- Every piece carries the type; all but the last have the more bit.
unfoldable pub bodies_of : ℕ → List (List ℕ) → List (List ℕ)
bodies_of code [] = []
bodies_of code (p ∷ []) = body_of decode_data reader 0 (code ∷ p) ∷ []
bodies_of code (p ∷ q ∷ ps) = body_of decode_data reader 2 (code ∷ p) ∷ bodies_of code (q ∷ ps)

unfoldable pub packets_of : ℕ → List ℕ → List (List ℕ)
packets_of code m = bodies_of code (pieces_of m)

-- The bytes from 250 times i on, and where no piece of a message is cut shorter: no two neighbours of these are equal, with more behind them.
abbrev pub block : ℕ → List ℕ → List ℕ
block i m = take piece_size (drop (i * piece_size) m)

pub record Uncut (m : List ℕ) : Type 0 where
  pub none : (i : ℕ) → (i + 2) * piece_size < length m → same_bytes (block i m) (block (i + 1) m) ≡ false
