-- How a message is cut into pieces, and what its packets are then. Assumes nothing.
use Prim.Native.Nat.{ℕ, zero, suc, ◌+◌, ◌-◌, ◌*◌, ◌≤◌, ◌<◌}
use mathlib.Core.Path.{◌≡◌, refl, ap, ◌∙◌}
use mathlib.Core.Bool.{Bool, true, false}
use mathlib.Core.List.{List, [], ◌∷◌}
use native.Mathlib.Omega.{arith}
use native.Mathlib.Decide.{dec_le}
use lib.ListN.{length, take, drop, length-drop}
use lib.Seq.{length-take-le}
use borrow.Author.Tests.{le-leb, lt-leb, lt-ltb, le-ltb, eq-eqb}
use Rattle.words.specs.Lists.{pick, same_bytes}
use Rattle.words.proofs.Lists.{same_equal, other_length}
use Rattle.packet.specs.Opcodes.{reader, decode_data}
use Rattle.packet.specs.Packet.{body_of}
use Rattle.sender.specs.Pieces.{next_size, cut_by, pieces_from, pieces_of, bodies_of}
use Rattle.sender.specs.Promises.{sized_of}

-- ---- the next piece

pub next_last : (b m : List ℕ) → length m ≤ 250 → next_size b m ≡ length m
unfolding next_size
next_last b m h = simp (le-leb (length m) 250 h)

-- Of a piece that is not the last: 250 bytes, or 249 where these would equal the piece before, which has 250 then.
pub record Takes (b m : List ℕ) (n : ℕ) : Type 0 where
  pub least : 249 ≤ n
  pub most : n ≤ 250
  pub full : (length b ≡ 250 → ⊥) → n ≡ 250
  pub new : same_bytes b (take n m) ≡ false

takes_by : (b m : List ℕ) → 250 < length m → (d : Bool) → same_bytes b (take 250 m) ≡ d → Takes b m (pick d 249 250)
takes_by b m h true e =
    let same : length b ≡ 250 = ap length (same_equal b (take 250 m) e) ∙ length-take-le 250 m (omega arith) in
    let short = length-take-le 249 m (omega arith) in
    record { least = omega arith; most = omega arith; full = λ n. absurd (n same); new = other_length b (take 249 m) (λ z. omega arith) }
takes_by b m h false e = record { least = omega arith; most = omega arith; full = λ n. refl; new = e }

pub next_takes : (b m : List ℕ) → 250 < length m → Takes b m (next_size b m)
unfolding next_size
next_takes b m h = simp (lt-leb (length m) 250 h) (takes_by b m h (same_bytes b (take 250 m)) refl)

-- In all cases no more than a packet holds, and no more than there is.
pub record Fits (b m : List ℕ) : Type 0 where
  pub small : next_size b m ≤ 250
  pub inside : next_size b m ≤ length m
  pub sized : sized_of (length m) (next_size b m) ≡ true

fits_by : (b m : List ℕ) → Dec (length m ≤ 250) → Fits b m
unfolding sized_of
fits_by b m (yes h) =
    let e = next_last b m h in
    record { small = omega arith; inside = omega arith; sized = simp (le-leb (length m) 250 h) (eq-eqb (next_size b m) (length m) e) }
fits_by b m (no h) =
    let long : 250 < length m = omega arith in
    let t = next_takes b m long in
    let least = t.least in
    let most = t.most in
    record {
      small = most;
      inside = omega arith;
      sized = simp (lt-leb (length m) 250 long, le-leb 249 (next_size b m) least, le-leb (next_size b m) 250 most);
    }

pub next_fits : (b m : List ℕ) → Fits b m
next_fits b m = fits_by b m (dec_le (length m) 250)

-- ---- the cut

-- How a message is cut behind a piece: the last piece, or the next one and then the rest behind it.
pub data Cut : List ℕ → List ℕ → List (List ℕ) → Type 0 where
  last : {b m : List ℕ} → length m ≤ 250 → Cut b m (m ∷ [])
  more : {b m : List ℕ} {ps : List (List ℕ)} → 250 < length m → Cut (take (next_size b m) m) (drop (next_size b m) m) ps → Cut b m (take (next_size b m) m ∷ ps)

-- What is left behind a piece that is not the last, and that is some.
pub record Left (b m : List ℕ) : Type 0 where
  pub front : length (take (next_size b m) m) ≡ next_size b m
  pub behind : length (drop (next_size b m) m) ≡ length m - next_size b m
  pub some : next_size b m < length m
  pub takes : Takes b m (next_size b m)

pub left_behind : (b m : List ℕ) → 250 < length m → Left b m
left_behind b m h =
    let t = next_takes b m h in
    let most = t.most in
    record { front = length-take-le (next_size b m) m (omega arith); behind = length-drop (next_size b m) m; some = omega arith; takes = t }

cut_by_lem : (k : ℕ) (b m : List ℕ) → Dec (length m ≤ 250) → length m < suc k * 249 + 251 →
    ((b' m' : List ℕ) → length m' < k * 249 + 251 → Cut b' m' (cut_by k b' m')) → Cut b m (cut_by (suc k) b m)
unfolding cut_by
cut_by_lem k b m (yes h) l on = let e = next_last b m h in rw (le-ltb (next_size b m) (length m) (omega arith)) (last {b = b} {m = m} h)
cut_by_lem k b m (no h) l on =
    let w = left_behind b m (omega arith) in
    let least = w.takes.least in
    let behind = w.behind in
    rw (lt-ltb (next_size b m) (length m) w.some) (more {b = b} {m = m} (omega arith) (on (take (next_size b m) m) (drop (next_size b m) m) (omega arith)))

cut_is : (k : ℕ) (b m : List ℕ) → length m < k * 249 + 251 → Cut b m (cut_by k b m)
unfolding cut_by
cut_is zero b m h = last {b = b} {m = m} (omega arith)
cut_is (suc k) b m h = cut_by_lem k b m (dec_le (length m) 250) h (cut_is k)

-- A message's pieces are cut so, and there is one way to do it.
pub pieces_from_cut : (b m : List ℕ) → Cut b m (pieces_from b m)
unfolding pieces_from
pieces_from_cut b m = cut_is (length m) b m (omega arith)

pub pieces_are_cut : (m : List ℕ) → Cut [] m (pieces_of m)
unfolding pieces_of
pieces_are_cut m = pieces_from_cut [] m

pub one_cut : {b m : List ℕ} {ps qs : List (List ℕ)} → Cut b m ps → Cut b m qs → ps ≡ qs
one_cut (last h) (last l) = refl
one_cut (last h) (more l c) = absurd (omega arith)
one_cut (more h c) (last l) = absurd (omega arith)
one_cut (more {b} {m} h c) (more l d) = ap (λ (ps : List (List ℕ)). take (next_size b m) m ∷ ps) (one_cut c d)

-- There is always one.
pub cut_some : {b m : List ℕ} {ps : List (List ℕ)} → Cut b m ps → 1 ≤ length ps
cut_some (last h) = omega arith
cut_some (more h c) = omega arith

-- ---- the first piece

pub pieces_last : (b m : List ℕ) → length m ≤ 250 → pieces_from b m ≡ m ∷ []
pieces_last b m h = one_cut (pieces_from_cut b m) (last h)

pub pieces_cut : (b m : List ℕ) → 250 < length m → pieces_from b m ≡ take (next_size b m) m ∷ pieces_from (take (next_size b m) m) (drop (next_size b m) m)
pieces_cut b m h = one_cut (pieces_from_cut b m) (more h (pieces_from_cut (take (next_size b m) m) (drop (next_size b m) m)))

-- ---- the first packet

pub bodies_more : (code : ℕ) (p : List ℕ) (ps : List (List ℕ)) → 1 ≤ length ps → bodies_of code (p ∷ ps) ≡ body_of decode_data reader 2 (code ∷ p) ∷ bodies_of code ps
unfolding bodies_of
bodies_more code p [] h = absurd (omega arith)
bodies_more code p (q ∷ ps) h = refl
