-- One law for each answer of the functions that spell bytes and put lines, and what the loop over the bytes keeps. Assumes nothing.
use Prim.Native.Nat.{ℕ, ◌+◌, ◌*◌, ◌-◌, ◌<◌, ◌≤◌}
use mathlib.Core.Path.{◌≡◌, refl, sym}
use mathlib.Core.List.{List, [], ◌∷◌, ◌++◌, append_assoc}
use native.Mathlib.Nat.{le_antisymm}
use native.Mathlib.Numerals.{add-one}
use native.Mathlib.Omega.{arith}
use lib.ListN.{length, get_or, take, drop, length-append}
use lib.Seq.{take-length, take-suc, length-take-le}
use borrow.Author.Tests.{lt-ltb, le-ltb}
use Rattle.words.specs.Lists.{over, over_at}
use Rattle.listing.specs.Lines.{capital_of, hex_byte, hex_bytes, line_of}
use Rattle.listing.specs.declared.Page.{Page}
use Rattle.listing.specs.Promises.{Capital, Spelt, Writes, PutsLine, WritesOn}
use Rattle.listing.proofs.Rooms.{writes_on_then, writes_length, writes_none, puts_none, puts_whole}

-- ---- digits

pub capital_decimal : {n : ℕ} → n < 10 → Capital n (48 + n)
unfolding capital_of
capital_decimal {n} h = record { is = simp (lt-ltb n 10 h) }

pub capital_letter : {n : ℕ} → 10 ≤ n → Capital n (65 + (n - 10))
unfolding capital_of
capital_letter {n} h = let letter : 65 + (n - 10) ≡ 55 + n = omega arith in record { is = rw letter (simp (le-ltb n 10 h)) }

-- ---- bytes

pub length_hex_byte : (b : ℕ) → length (hex_byte b) ≡ 3
unfolding hex_byte
length_hex_byte b = refl

pub length_hex_bytes : (s : List ℕ) → length (hex_bytes s) ≡ 3 * length s
unfolding hex_bytes
length_hex_bytes [] = refl
length_hex_bytes (b ∷ bs) = let h = length_hex_bytes bs in let k = length_hex_byte b in simp length-append (omega arith)

pub hex_bytes_append : (s t : List ℕ) → hex_bytes (s ++ t) ≡ hex_bytes s ++ hex_bytes t
unfolding hex_bytes
hex_bytes_append [] t = refl
hex_bytes_append (b ∷ bs) t = rw (hex_bytes_append bs t) (sym (append_assoc (hex_byte b) (hex_bytes bs) (hex_bytes t)))

-- A run of bytes that lies in the room.
pub run_written : {s part room : List ℕ} {at k : ℕ} → k ≡ length s → part ≡ s → at + length s ≤ length room → Writes s at room (at + length s) (take at room ++ (part ++ drop k (drop at room)))
unfolding over_at over
run_written e f h = record { is = refl; room_is = rw (e, f) refl; inside = h }

-- The first i bytes are spelt.
pub record Spelling (bytes : List ℕ) (p₀ p : Page) (i : ℕ) : Type 0 where
  pub writes : WritesOn (hex_bytes (take i bytes)) p₀ p

spelt_place : {bytes : List ℕ} {p₀ p : Page} {i : ℕ} → Spelling bytes p₀ p i → i ≤ length bytes → p.at ≡ p₀.at + 3 * i
spelt_place {bytes} {i = i} k h =
    let n = length_hex_bytes (take i bytes) in
    let l = length-take-le i bytes h in
    let e = k.writes.writes.is in
    omega arith

pub spelling_none : {bytes : List ℕ} {p : Page} → p.at ≤ length p.room.now → Spelling bytes p p 0
unfolding hex_bytes
spelling_none h = record { writes = writes_none h }

pub spelling_room : {bytes : List ℕ} {p₀ p : Page} {i : ℕ} → Spelling bytes p₀ p i → i < length bytes → p₀.at + 3 * length bytes ≤ length p₀.room.now → p.at + 3 ≤ length p.room.now
spelling_room k h n =
    let e = spelt_place k (omega arith) in
    let l = writes_length k.writes.writes in
    omega arith

pub spelling_more : {bytes digits : List ℕ} {p₀ p p' : Page} {i : ℕ} → Spelling bytes p₀ p i → i < length bytes → Spelt (get_or bytes i 0) digits →
    WritesOn (32 ∷ get_or digits 0 0 ∷ get_or digits 1 0 ∷ []) p p' → Spelling bytes p₀ p' (i + 1)
unfolding hex_bytes hex_byte
spelling_more {bytes} {digits} {i = i} k h d w =
    let byte : 32 ∷ get_or digits 0 0 ∷ get_or digits 1 0 ∷ [] ≡ hex_byte (get_or bytes i 0) = rw d.is refl in
    let more : hex_bytes (take (i + 1) bytes) ≡ hex_bytes (take i bytes) ++ hex_byte (get_or bytes i 0) =
    rw (add-one i, take-suc bytes i 0 h) (hex_bytes_append (take i bytes) (get_or bytes i 0 ∷ [])) in
    record { writes = rw more (writes_on_then k.writes (rw byte at w)) }

pub spelling_all : {bytes : List ℕ} {p₀ p : Page} {i : ℕ} → Spelling bytes p₀ p i → i ≤ length bytes → length bytes ≤ i → WritesOn (hex_bytes bytes) p₀ p
spelling_all {bytes} {i = i} k l h =
    let e : i ≡ length bytes = le_antisymm l h in
    let whole : take i bytes ≡ bytes = rw e (take-length bytes) in
    rw whole at k.writes

-- ---- lines

pub length_line : (letter : ℕ) (s : List ℕ) → length (line_of letter s) ≡ 3 * length s + 2
unfolding line_of
length_line letter s = let h = length_hex_bytes s in simp length-append (omega arith)

-- The letter, the bytes and the line feed, one behind the other.
pub line_written : {letter : ℕ} (bytes : List ℕ) {p p₁ p₂ p₃ : Page} → WritesOn (letter ∷ []) p p₁ → WritesOn (hex_bytes bytes) p₁ p₂ → WritesOn (10 ∷ []) p₂ p₃ → WritesOn (line_of letter bytes) p p₃
unfolding line_of
line_written bytes a b c = writes_on_then (writes_on_then a b) c

pub no_line : (letter : ℕ) (bytes : List ℕ) {p : Page} → length p.room.now < p.at + 3 * length bytes + 2 → PutsLine (line_of letter bytes) p p
no_line letter bytes h = let n = length_line letter bytes in record { puts = puts_none (omega arith); page = record { room = refl } }

pub whole_line : {s : List ℕ} {p p' : Page} → WritesOn s p p' → PutsLine s p p'
whole_line w = record { puts = puts_whole w.writes; page = w.page }
