-- An event writes at most the byte that came, into the half that receives: from the definitions of the line buffer alone, for any control value and any
-- buffer. Assumes nothing.
use Prim.Native.Nat.{ℕ, zero, suc, ◌+◌, ◌≤◌, ◌<◌}
use mathlib.Core.Path.{◌≡◌, refl, sym, ap, ◌∙◌}
use mathlib.Core.Bool.{Bool, true, false, not}
use mathlib.Core.List.{List, [], ◌∷◌, ◌++◌}
use native.Mathlib.Omega.{arith}
use native.Mathlib.Nat.{zero-add}
use lib.Dec.{ltb}
use lib.ListN.{length, take, drop, set, take-append-drop}
use lib.Seq.{set-append_left, take-set-le, drop-set-lt, drop-set-add}
use borrow.Author.Tests.{ltb-true, ltb-false}
use Rattle.words.specs.Lists.{pick}
use Rattle.words.proofs.Lists.{set_over}
use Rattle.packet.specs.Sizes.{packet_size}
use Rattle.framer.specs.Promises.{begun_of, line_of, stored_of, line_after}
use Rattle.framer.specs.Halves.{place_of, half_of, buffer_after}
use Rattle.framer.specs.Untouched.{AtMostTheByte, as_it_was, one_byte, LineKept}
use Rattle.framer.specs.declared.Event.{Event}
use Rattle.framer.specs.declared.Event.TheVariants.{Byte, CharacterGap, MessageGap}
use Rattle.framer.specs.declared.Framer.{Framer}
use Rattle.framer.specs.declared.Halves.{Halves}

-- A store past the end writes nothing.
set_past : (s : List ℕ) (i b : ℕ) → length s ≤ i → set s i b ≡ s
set_past [] i b h = refl
set_past (x ∷ xs) zero b h = absurd (omega arith)
set_past (x ∷ xs) (suc i) b h = ap (λ (l : List ℕ). x ∷ l) (set_past xs i b (omega arith))

-- ---- one line buffer

begun_most : (f : Framer) → begun_of f < packet_size
unfolding begun_of
begun_most f = by (ltb f.count packet_size) refl
  where
    by : (d : Bool) → ltb f.count packet_size ≡ d → pick d f.count 0 < packet_size
    by true e = ltb-true f.count packet_size e
    by false e = omega arith

stored_at_most : (f : Framer) (line : List ℕ) (e : Event) (off : Bool) → packet_size ≤ length line → f.deaf ≡ off → AtMostTheByte 0 line (stored_of e (line_of f line) line) e
unfolding stored_of line_of
stored_at_most f line (Byte b) true h d = as_it_was (simp d)
stored_at_most f line (Byte b) false h d =
    let m = begun_most f in
    one_byte {b = b} (begun_of f) (omega arith) (rw (zero-add (begun_of f)) (simp d (sym (set_over line (begun_of f) b (omega arith)))))
stored_at_most f line CharacterGap off h d = as_it_was refl
stored_at_most f line MessageGap off h d = as_it_was refl

after_by : (f : Framer) (line : List ℕ) (e : Event) (short : Bool) → ltb (length line) packet_size ≡ short → AtMostTheByte 0 line (pick short line (stored_of e (line_of f line) line)) e
after_by f line e true s = as_it_was refl
after_by f line e false s = stored_at_most f line e f.deaf (ltb-false (length line) packet_size s) refl

-- The framer's own line buffer.
pub line_at_most : (f : Framer) (line : List ℕ) (e : Event) → AtMostTheByte 0 line (line_after f line e) e
unfolding line_after
line_at_most f line e = after_by f line e (ltb (length line) packet_size) refl

-- ---- the two halves

-- A part that comes back as it was; and with one place written.
module _ (a : ℕ) (buffer : List ℕ) where
  whole_back : take a buffer ++ (take packet_size (drop a buffer) ++ drop packet_size (drop a buffer)) ≡ buffer
  whole_back = ap (λ (s : List ℕ). take a buffer ++ s) (take-append-drop packet_size (drop a buffer)) ∙ take-append-drop a buffer

  pub set_back : (at b : ℕ) → at < length (take packet_size (drop a buffer)) →
      take a buffer ++ (set (take packet_size (drop a buffer)) at b ++ drop packet_size (drop a buffer)) ≡ set buffer (a + at) b
  set_back at b h =
      let inner = sym (set-append_left (take packet_size (drop a buffer)) (drop packet_size (drop a buffer)) at b h) ∙ ap (λ (s : List ℕ). set s at b) (take-append-drop packet_size (drop a buffer)) in
      let front = take-set-le a buffer (a + at) b (omega arith) in
      let behind = drop-set-add a buffer at b in
      ap (λ (s : List ℕ). take a buffer ++ s) inner ∙ (rw (front, behind) at (take-append-drop a (set buffer (a + at) b)))

-- The byte of a half is a byte of the whole.
half_at_most : (a : ℕ) (buffer half : List ℕ) {e : Event} → AtMostTheByte 0 (take packet_size (drop a buffer)) half e → AtMostTheByte a buffer (take a buffer ++ (half ++ drop packet_size (drop a buffer))) e
half_at_most a buffer half (as_it_was q) = as_it_was (rw q (whole_back a buffer))
half_at_most a buffer half (one_byte {b = b} at l q) = by (ltb at (length (take packet_size (drop a buffer)))) refl
  where
    by : (d : Bool) → ltb at (length (take packet_size (drop a buffer))) ≡ d → AtMostTheByte a buffer (take a buffer ++ (half ++ drop packet_size (drop a buffer))) (Byte b)
    by true k = one_byte {b = b} at l (rw (q, zero-add at) (set_back a buffer at b (ltb-true at (length (take packet_size (drop a buffer))) k)))
    by false k = as_it_was (rw (q, zero-add at, set_past (take packet_size (drop a buffer)) at b (ltb-false at (length (take packet_size (drop a buffer))) k)) (whole_back a buffer))

other_half : (second : Bool) (line line' : List ℕ) {e : Event} → AtMostTheByte (place_of second) line line' e → half_of (not second) line' ≡ half_of (not second) line
unfolding place_of half_of
other_half second line line' (as_it_was q) = rw q refl
other_half true line line' (one_byte {b = b} at l q) = rw q (take-set-le packet_size line (packet_size + at) b (omega arith))
other_half false line line' (one_byte {b = b} at l q) = rw (q, zero-add at) (ap (take packet_size) (drop-set-lt packet_size line at b l))

-- The line buffer of an end that remembers its last accepted packet.
pub line_kept : (h : Halves) (line : List ℕ) (e : Event) → LineKept h e line (buffer_after h line e)
unfolding buffer_after half_of
line_kept h line e =
    let k = half_at_most (place_of h.second) line (line_after h.framer (take packet_size (drop (place_of h.second) line)) e) (line_at_most h.framer (take packet_size (drop (place_of h.second) line)) e) in
    record { last_packet = other_half h.second line (buffer_after h line e) k; receiving = k }
