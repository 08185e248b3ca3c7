-- The laws of pieces and packets, which go along the cut: joined they are the message, how many there are and how long, where cuts fall, and that no
-- packet equals the one before it. Assumes nothing.
use Prim.Native.Nat.{ℕ, zero, suc, ◌+◌, ◌-◌, ◌*◌, ◌/◌, ◌≤◌, ◌<◌}
use mathlib.Core.Path.{◌≡◌, refl, sym, ap, ◌∙◌}
use mathlib.Core.Bool.{false}
use mathlib.Core.List.{List, [], ◌∷◌, ◌++◌, map, flatten, append-nil}
use native.Mathlib.Omega.{arith}
use native.Mathlib.Decide.{dec_le, ℕ_discrete}
use lib.Dec.{eqb}
use lib.ListN.{length, get_or, take, drop, replicate, take-append-drop, length-drop}
use lib.Seq.{length-take-le, drop-drop}
use borrow.Author.Tests.{lt-leb}
use Rattle.words.specs.Lists.{both, same_bytes, Bytes, Each, none, one}
use Rattle.words.proofs.Lists.{bytes_cons, bytes_take, bytes_drop, both_false, other_length}
use Rattle.words.proofs.Machine.{each_so}
use Rattle.packet.specs.Opcodes.{reader, decode_data}
use Rattle.packet.specs.Packet.{body_of, seal, head_in, check_of}
use Rattle.std.specs.Prelude.{Ok}
use Rattle.packet.proofs.Theorems.{Body, body_of_lem, sealed_check}
use Rattle.packet.proofs.Writing.{length_seal}
use Rattle.sender.specs.Pieces.{next_size, pieces_of, bodies_of, packets_of, block, Uncut}
use Rattle.sender.proofs.Cutting.{Cut, last, more, Left, left_behind, next_takes, pieces_are_cut, cut_some, pieces_last, bodies_more}

-- ---- pieces

cut_joined : {b m : List ℕ} {ps : List (List ℕ)} → Cut b m ps → flatten ps ≡ m
unfolding flatten
cut_joined (last {m = m} h) = append-nil m
cut_joined (more {b} {m} h c) = rw (cut_joined c) (take-append-drop (next_size b m) m)

-- All but the last have 250 bytes, or 249 behind one of 250; the last has at most 250. With how many the piece before has.
pub data Sized : ℕ → List (List ℕ) → Type 0 where
  at_most : {n : ℕ} {p : List ℕ} → length p ≤ 250 → Sized n (p ∷ [])
  full : {n : ℕ} {p : List ℕ} {ps : List (List ℕ)} → length p ≡ 250 → Sized 250 ps → Sized n (p ∷ ps)
  shorter : {p : List ℕ} {ps : List (List ℕ)} → length p ≡ 249 → Sized 249 ps → Sized 250 (p ∷ ps)

sized_next : {n : ℕ} {p : List ℕ} {ps : List (List ℕ)} → 249 ≤ length p → length p ≤ 250 → ((n ≡ 250 → ⊥) → length p ≡ 250) → Sized (length p) ps →
    Dec (n ≡ 250) → Dec (length p ≡ 250) → Sized n (p ∷ ps)
sized_next l m f k d (yes e) = full e (rw e at k)
sized_next {p = p} l m f k (yes d) (no e) = let z : length p ≡ 249 = omega arith in rw d (shorter z (rw z at k))
sized_next l m f k (no d) (no e) = absurd (e (f d))

cut_sized : {b m : List ℕ} {ps : List (List ℕ)} → Cut b m ps → Sized (length b) ps
cut_sized (last h) = at_most h
cut_sized (more {b} {m} h c) =
    let w = left_behind b m h in
    let front = w.front in
    let least = w.takes.least in
    let most = w.takes.most in
    sized_next (omega arith) (omega arith) (λ n. front ∙ w.takes.full n) (cut_sized c) (ℕ_discrete (length b) 250) (ℕ_discrete (length (take (next_size b m) m)) 250)

cut_filled : {b m : List ℕ} {ps : List (List ℕ)} → Cut b m ps → 0 < length m → Each (λ (p : List ℕ). 0 < length p) ps
cut_filled (last h) l = one l none
cut_filled (more {b} {m} h c) l =
    let w = left_behind b m h in
    let front = w.front in
    let behind = w.behind in
    let some = w.some in
    let least = w.takes.least in
    one {x = take (next_size b m) m} (omega arith) (cut_filled c (omega arith))

-- The last piece.
unfoldable pub final : List (List ℕ) → List ℕ
final [] = []
final (p ∷ []) = p
final (p ∷ q ∷ ps) = final (q ∷ ps)

final_more : (p : List ℕ) (ps : List (List ℕ)) → 1 ≤ length ps → final (p ∷ ps) ≡ final ps
unfolding final
final_more p [] h = absurd (omega arith)
final_more p (q ∷ ps) h = refl

final_at : (k : ℕ) (ps : List (List ℕ)) → length ps ≡ suc k → get_or ps k [] ≡ final ps
unfolding final
final_at k [] e = absurd (omega arith)
final_at zero (p ∷ []) e = refl
final_at (suc k) (p ∷ []) e = absurd (omega arith)
final_at zero (p ∷ q ∷ ps) e = absurd (omega arith)
final_at (suc k) (p ∷ q ∷ ps) e = final_at k (q ∷ ps) (omega arith)

-- How many bytes so many pieces have: each but the last 249 or 250, and 250 at least every second one, the first among them if it is not behind a
-- full piece (d is 1).
pub record Spans (d : ℕ) (m : List ℕ) (ps : List (List ℕ)) : Type 0 where
  pub least : length (final ps) + (length ps - 1) * 249 + (length ps - 1 + d) / 2 ≤ length m
  pub most : length m ≤ length (final ps) + (length ps - 1) * 250

spans_next : {b m : List ℕ} {ps : List (List ℕ)} (d : ℕ) → d ≤ 1 → (length b ≡ 250 → d ≡ 0) → 1 ≤ length ps → Left b m → Dec (length b ≡ 250) → Dec (next_size b m ≡ 250) →
    ((d' : ℕ) → d' ≤ 1 → (next_size b m ≡ 250 → d' ≡ 0) → Spans d' (drop (next_size b m) m) ps) → Spans d m (take (next_size b m) m ∷ ps)
spans_next {b} {m} {ps} d l f some w q (yes e) on =
    let k = on 0 (omega arith) (λ z. refl) in
    let least = k.least in
    let most = k.most in
    let behind = w.behind in
    let inside = w.some in
    let end = ap length (final_more (take (next_size b m) m) ps some) in
    record { least = omega arith; most = omega arith }
spans_next {b} {m} {ps} d l f some w (yes q) (no e) on =
    let k = on 1 (omega arith) (λ z. absurd (e z)) in
    let least = k.least in
    let most = k.most in
    let behind = w.behind in
    let inside = w.some in
    let zero-d = f q in
    let size = w.takes.least in
    let size' = w.takes.most in
    let end = ap length (final_more (take (next_size b m) m) ps some) in
    record { least = omega arith; most = omega arith }
spans_next {b} {m} {ps} d l f some w (no q) (no e) on = absurd (e (w.takes.full q))

cut_spans : {b m : List ℕ} {ps : List (List ℕ)} (d : ℕ) → d ≤ 1 → (length b ≡ 250 → d ≡ 0) → Cut b m ps → Spans d m ps
unfolding final
cut_spans d l f (last h) = record { least = omega arith; most = omega arith }
cut_spans d l f (more {b} {m} h c) =
    let w = left_behind b m h in
    let front = w.front in
    spans_next d l f (cut_some c) w (ℕ_discrete (length b) 250) (ℕ_discrete (next_size b m) 250) (λ d' l' f'. cut_spans d' l' (λ z. f' (omega arith)) c)

-- Joined, the pieces are the message.
pub pieces_joined : (m : List ℕ) → flatten (pieces_of m) ≡ m
pieces_joined m = cut_joined (pieces_are_cut m)

-- Every piece but the last has 250 bytes, or 249 behind one of 250; the last at most 250.
pub pieces_sized : (m : List ℕ) → Sized 0 (pieces_of m)
pieces_sized m = cut_sized (pieces_are_cut m)

-- None is empty unless the message is.
pub pieces_filled : (m : List ℕ) → 0 < length m → Each (λ (p : List ℕ). 0 < length p) (pieces_of m)
pieces_filled m h = cut_filled (pieces_are_cut m) h

pieces_spans : (m : List ℕ) → Spans 1 m (pieces_of m)
pieces_spans m = cut_spans 1 (omega arith) (λ z. absurd (omega arith)) (pieces_are_cut m)

-- A message of at most 250 bytes has one piece.
pub pieces_one : (m : List ℕ) → length m ≤ 250 → length (pieces_of m) ≡ 1
unfolding pieces_of
pieces_one m h = rw (pieces_last [] m h) refl

final_each : {P : List ℕ → Type 0} (ps : List (List ℕ)) → Each P ps → 1 ≤ length ps → P (final ps)
unfolding final
final_each [] none l = absurd (omega arith)
final_each (p ∷ []) (one h none) l = h
final_each (p ∷ q ∷ ps) (one h (one k ks)) l = final_each (q ∷ ps) (one k ks) (omega arith)

-- Whatever can be sent has at most 17, wherever cuts fall.
pub pieces_most : (m : List ℕ) → length m ≤ 4096 → length (pieces_of m) ≤ 17
pieces_most m h = by (dec_le (length m) 0)
  where
    by : Dec (length m ≤ 0) → length (pieces_of m) ≤ 17
    by (yes z) = let e = pieces_one m (omega arith) in omega arith
    by (no z) =
        let least = (pieces_spans m).least in
        let some = final_each (pieces_of m) (pieces_filled m (omega arith)) (cut_some (pieces_are_cut m)) in
        omega arith

-- None has more than 250.
sized_small : {n : ℕ} {ps : List (List ℕ)} → Sized n ps → Each (λ (p : List ℕ). length p ≤ 250) ps
sized_small (at_most h) = one h none
sized_small (full {p = p} h k) = one {x = p} (omega arith) (sized_small k)
sized_small (shorter {p = p} h k) = one {x = p} (omega arith) (sized_small k)

pub pieces_small : (m : List ℕ) → Each (λ (p : List ℕ). length p ≤ 250) (pieces_of m)
pieces_small m = sized_small (pieces_sized m)

-- The longest message has 17 in any case, the last of 96 to 104 bytes.
pub record Longest (ps : List (List ℕ)) : Type 0 where
  pub number : length ps ≡ 17
  pub least : 96 ≤ length (get_or ps 16 [])
  pub most : length (get_or ps 16 []) ≤ 104

pub pieces_longest : (m : List ℕ) → length m ≡ 4096 → Longest (pieces_of m)
pieces_longest m e =
    let s = pieces_spans m in
    let least = s.least in
    let most = s.most in
    let few = pieces_most m (omega arith) in
    let small = final_each (pieces_of m) (pieces_small m) (cut_some (pieces_are_cut m)) in
    let number : length (pieces_of m) ≡ 17 = omega arith in
    let end : length (get_or (pieces_of m) 16 []) ≡ length (final (pieces_of m)) = ap length (final_at 16 (pieces_of m) number) in
    record { number = number; least = omega arith; most = omega arith }

-- ---- where no cut falls

uncut_drop : {m : List ℕ} → Uncut m → Uncut (drop 250 m)
uncut_drop {m} u = record { none = λ i h. by i (let e = length-drop 250 m in u.none (i + 1) (omega arith)) }
  where
    by : (i : ℕ) → same_bytes (block (i + 1) m) (block (i + 1 + 1) m) ≡ false → same_bytes (block i (drop 250 m)) (block (i + 1) (drop 250 m)) ≡ false
    by i h =
        let e : 250 + i * 250 ≡ (i + 1) * 250 = omega arith in
        let f : 250 + (i + 1) * 250 ≡ (i + 1 + 1) * 250 = omega arith in
        rw (drop-drop (i * 250) 250 m, drop-drop ((i + 1) * 250) 250 m, e, f) h

uncut_next : {m : List ℕ} → Uncut m → 250 < length (drop 250 m) → same_bytes (take 250 m) (take 250 (drop 250 m)) ≡ false
uncut_next {m} u h = let e = length-drop 250 m in u.none 0 (omega arith)

full_next : (b m : List ℕ) → 250 < length m → same_bytes b (take 250 m) ≡ false → next_size b m ≡ 250
unfolding next_size
full_next b m h e = simp (lt-leb (length m) 250 h, e)

cut_sizes : {b m : List ℕ} {ps : List (List ℕ)} (k r : ℕ) → 0 < r → r ≤ 250 → length m ≡ k * 250 + r → Uncut m → (250 < length m → same_bytes b (take 250 m) ≡ false) →
    Cut b m ps → map length ps ≡ replicate k 250 ++ (r ∷ [])
cut_sizes zero r h l e u f (last {m = m} n) = let g : length m ≡ r = omega arith in rw g refl
cut_sizes (suc k) r h l e u f (last {m = m} n) = absurd (omega arith)
cut_sizes zero r h l e u f (more {m = m} n c) = absurd (omega arith)
cut_sizes (suc k) r h l e u f (more {b} {m} {ps} n c) =
    let size = full_next b m n (f n) in
    let front = length-take-le 250 m (omega arith) in
    let behind = length-drop 250 m in
    let on : Cut (take 250 m) (drop 250 m) ps = rw size at c in
    rw (size, front, cut_sizes {b = take 250 m} {m = drop 250 m} {ps = ps} k r h l (omega arith) (uncut_drop u) (uncut_next u) on) refl

none_same : (m : List ℕ) → 250 < length m → same_bytes [] (take 250 m) ≡ false
none_same m h = other_length [] (take 250 m) (λ z. let e = length-take-le 250 m (omega arith) in omega arith)

-- How many bytes each piece has then: 250, and in the last one the rest.
pub pieces_sizes : (m : List ℕ) (k r : ℕ) → 0 < r → r ≤ 250 → length m ≡ k * 250 + r → Uncut m → map length (pieces_of m) ≡ replicate k 250 ++ (r ∷ [])
pieces_sizes m k r h l e u = cut_sizes k r h l e u (none_same m) (pieces_are_cut m)

-- No cut can fall in a message of at most 500 bytes.
pub short_uncut : (m : List ℕ) → length m ≤ 500 → Uncut m
short_uncut m h = record { none = λ i l. absurd (omega arith) }

-- ---- packets

cut_packets : {b m : List ℕ} {ps : List (List ℕ)} (code : ℕ) → Cut b m ps → length (bodies_of code ps) ≡ length ps
unfolding bodies_of
cut_packets code (last h) = refl
cut_packets code (more {b} {m} {ps} h c) = ap length (bodies_more code (take (next_size b m) m) ps (cut_some c)) ∙ ap suc (cut_packets code c)

cut_bodies : {b m : List ℕ} {ps : List (List ℕ)} (code : ℕ) → code < 256 → Bytes m → Cut b m ps → Each Body (bodies_of code ps)
unfolding bodies_of
cut_bodies code k bytes (last {m = m} h) = one (body_of_lem decode_data reader 0 (code ∷ m) (omega arith) (omega arith) (omega arith) (bytes_cons k bytes) (omega arith)) none
cut_bodies code k bytes (more {b} {m} {ps} h c) =
    let p = take (next_size b m) m in
    let w = left_behind b m h in
    let front = w.front in
    let most = w.takes.most in
    rw (bodies_more code p ps (cut_some c))
    (one (body_of_lem decode_data reader 2 (code ∷ p) (omega arith) (omega arith) (omega arith) (bytes_cons k (bytes_take (next_size b m) bytes)) (omega arith)) (cut_bodies code k (bytes_drop (next_size b m) bytes) c))

-- A packet for each piece, so there is always one.
pub packets_number : (code : ℕ) (m : List ℕ) → length (packets_of code m) ≡ length (pieces_of m)
unfolding packets_of
packets_number code m = cut_packets code (pieces_are_cut m)

pub packets_some : (code : ℕ) (m : List ℕ) → 1 ≤ length (packets_of code m)
packets_some code m = rw (packets_number code m) (cut_some (pieces_are_cut m))

-- Each packet is a body.
pub packets_bodies : (code : ℕ) (m : List ℕ) → code < 256 → Bytes m → Each Body (packets_of code m)
unfolding packets_of
packets_bodies code m k b = cut_bodies code k b (pieces_are_cut m)

-- So each is found by the check once it is sealed, whatever follows it on the line.
pub packets_found : (code : ℕ) (m rest : List ℕ) → code < 256 → Bytes m → Each (λ (p : List ℕ). check_of (seal p ++ rest) ≡ Ok (head_in p)) (packets_of code m)
packets_found code m rest k b = each_so (λ p h. sym (sealed_check p rest h).is) (packets_bodies code m k b)

-- None is longer than a packet holds: with its checksum it has at most the 257 bytes of the room.
pub packets_fit : (code : ℕ) (m : List ℕ) → code < 256 → Bytes m → Each (λ (p : List ℕ). length (seal p) ≤ 257) (packets_of code m)
packets_fit code m k b = each_so (λ p h. let e = length_seal p in let l = h.most in omega arith) (packets_bodies code m k b)

-- ---- no packet of a message equals the one before it

-- No two neighbours are equal.
pub data Apart : List (List ℕ) → Type 0 where
  lone : {p : List ℕ} → Apart (p ∷ [])
  next : {p q : List ℕ} {ps : List (List ℕ)} → same_bytes p q ≡ false → Apart (q ∷ ps) → Apart (p ∷ q ∷ ps)

-- Two packets that are not the last are told apart by their pieces, the last one by the more bit.
other_piece : (code : ℕ) (p q : List ℕ) → same_bytes p q ≡ false → same_bytes (body_of decode_data reader 2 (code ∷ p)) (body_of decode_data reader 2 (code ∷ q)) ≡ false
unfolding same_bytes body_of
other_piece code p q e =
    both_false (eqb (length (code ∷ p) + 4) (length (code ∷ q) + 4)) (both (eqb code code) (same_bytes p q)) (both_false (eqb code code) (same_bytes p q) e)

last_piece : (code : ℕ) (p q : List ℕ) → same_bytes (body_of decode_data reader 2 (code ∷ p)) (body_of decode_data reader 0 (code ∷ q)) ≡ false
unfolding same_bytes body_of
last_piece code p q = both_false (eqb (length (code ∷ p) + 4) (length (code ∷ q) + 4)) false refl

apart_by : {b m : List ℕ} {ps : List (List ℕ)} (code : ℕ) → Cut b m ps → Apart (body_of decode_data reader 2 (code ∷ b) ∷ bodies_of code ps)
unfolding bodies_of
apart_by code (last {b} {m} h) = next (last_piece code b m) lone
apart_by code (more {b} {m} {ps} h c) =
    rw (bodies_more code (take (next_size b m) m) ps (cut_some c))
    (next (other_piece code b (take (next_size b m) m) (next_takes b m h).new) (apart_by code c))

pub cut_apart : {b m : List ℕ} {ps : List (List ℕ)} (code : ℕ) → Cut b m ps → Apart (bodies_of code ps)
unfolding bodies_of
cut_apart code (last h) = lone
cut_apart code (more {b} {m} {ps} h c) = rw (bodies_more code (take (next_size b m) m) ps (cut_some c)) (apart_by code c)

pub packets_apart : (code : ℕ) (m : List ℕ) → Apart (packets_of code m)
unfolding packets_of
packets_apart code m = cut_apart code (pieces_are_cut m)
