-- Which control values are taken, and what the tests say of place, size and counts. Assumes nothing.
use Prim.Native.Nat.{ℕ, ◌+◌, ◌-◌, ◌*◌, ◌/◌, ◌≤◌, ◌<◌}
use mathlib.Core.Path.{◌≡◌, refl, sym, ap, ◌∙◌}
use mathlib.Core.Bool.{Bool, true, false}
use native.Mathlib.Omega.{arith}
use lib.Dec.{eqb, leb}
use borrow.Author.Tests.{eqb-true, le-leb, leb-true, leb-false}
use Rattle.words.specs.Lists.{pick, both}
use Rattle.words.proofs.Lists.{both_left, both_right, never}
use Rattle.sender.specs.Promises.{idle_control, sized_of, placed_of, counted_of, made_of, sound_of, Idle, Sounds, Placed, Made, Out}
use Rattle.sender.specs.declared.Sender.{Sender}

-- ---- what the tests say

-- Of a piece with so many bytes left where it starts.
record Held (left size : ℕ) : Type 0 where
  inside : size ≤ left
  small : size ≤ 250
  full : size < left → 249 ≤ size

held_by : (left size : ℕ) (d : Bool) → leb left 250 ≡ d → pick d (eqb size left) (both (leb 249 size) (leb size 250)) ≡ true → Held left size
held_by left size true e h =
    let same = eqb-true size left h in
    let l = leb-true left 250 e in
    record { inside = omega arith; small = omega arith; full = λ z. omega arith }
held_by left size false e h =
    let l = leb-false left 250 e in
    let least = leb-true 249 size (both_left (leb 249 size) (leb size 250) h) in
    let most = leb-true size 250 (both_right (leb 249 size) (leb size 250) h) in
    record { inside = omega arith; small = most; full = λ z. least }

held : (left size : ℕ) → sized_of left size ≡ true → Held left size
unfolding sized_of
held left size h = held_by left size (leb left 250) refl h

-- Of a piece within the message buffer.
pub record Lies (s : Sender) : Type 0 where
  pub fits : s.length ≤ 4096
  pub starts : s.at ≤ s.length
  pub sized : sized_of (s.length - s.at) s.size ≡ true
  pub within : s.at + s.size ≤ s.length
  pub small : s.size ≤ 250

pub placed_lies : (s : Sender) → placed_of s ≡ true → Lies s
unfolding placed_of
placed_lies s h =
    let l : Bool = leb s.length 4096 in
    let a : Bool = leb s.at s.length in
    let z : Bool = sized_of (s.length - s.at) s.size in
    let t = both_right l (both a z) h in
    let sized = both_right a z t in
    let k = held (s.length - s.at) s.size sized in
    let starts = leb-true s.at s.length (both_left a z t) in
    let inside = k.inside in
    record { fits = leb-true s.length 4096 (both_left l (both a z) h); starts = starts; sized = sized; within = omega arith; small = k.small }

pub placed_starts : {s : Sender} {b : Bool} → Placed s b → b ≡ true → s.at ≤ s.length
placed_starts {s} k e = (placed_lies s (sym k.is ∙ e)).starts

pub made_lies : (s : Sender) → made_of s ≡ true → Lies s
unfolding made_of
made_lies s h = placed_lies s (both_left (placed_of s) (pick s.out (counted_of s) (both s.delivered (leb (s.length - s.at) 250))) h)

-- A control value that is taken, with a message out.
pub made_out : (s : Sender) → made_of s ≡ true → s.out ≡ true → Out s
unfolding made_of counted_of
made_out s h o =
    let k = made_lies s h in
    let t : Bool = leb s.resends 2 in
    let n : Bool = leb s.copies (s.at / 249 * 2 + s.resends) in
    let counted = simp o at (both_right (placed_of s) (pick s.out (both t n) (both s.delivered (leb (s.length - s.at) 250))) h) in
    record {
      out = o;
      fits = k.fits;
      inside = k.within;
      small = k.small;
      sized = k.sized;
      tries = leb-true s.resends 2 (both_left t n counted);
      few = leb-true s.copies (s.at / 249 * 2 + s.resends) (both_right t n counted);
    }

-- A piece that is not the last has 249 bytes at least.
pub out_full : {s : Sender} → Out s → s.at + s.size < s.length → 249 ≤ s.size
out_full {s} o h = (held (s.length - s.at) s.size o.sized).full (omega arith)

-- One with a message out, as a run leaves it, is taken; so is one that keeps a last piece.
module _ (s : Sender) (fits : s.length ≤ 4096) (within : s.at + s.size ≤ s.length) (sized : sized_of (s.length - s.at) s.size ≡ true) where
  placed_is : placed_of s ≡ true
  unfolding placed_of
  placed_is = simp (le-leb s.length 4096 fits, le-leb s.at s.length (omega arith), sized)

  pub taken_kept : s.out ≡ false → s.delivered ≡ true → s.length - s.at ≤ 250 → sound_of s ≡ s
  unfolding sound_of made_of
  taken_kept o d l = simp (placed_is, o, d, le-leb (s.length - s.at) 250 l)

pub sound_out : (s : Sender) → Out s → sound_of s ≡ s
unfolding sound_of made_of counted_of
sound_out s o =
    simp (placed_is s o.fits o.inside o.sized, o.out, le-leb s.resends 2 o.tries, le-leb s.copies (s.at / 249 * 2 + s.resends) o.few)

-- ---- the sound control value

module _ {s : Sender} {b : Bool} (made : Made s b) where
  pub sound_same : b ≡ true → Sounds s s
  unfolding sound_of
  sound_same e =
      let k = made_lies s (sym made.is ∙ e) in
      let within = k.within in
      let fits = k.fits in
      record { is = simp (sym made.is ∙ e); within = omega arith }

  pub sound_idle : {i : Sender} → b ≡ false → Idle s.failed i → Sounds s i
  unfolding sound_of
  sound_idle e idle = record { is = simp (sym made.is ∙ e, idle.is); within = rw idle.is (omega arith) }

sounds_by : (s n : Sender) (d : Bool) → made_of s ≡ d → n ≡ pick d s (idle_control s.failed) → n.out ≡ true → Out n
sounds_by s n true e p o = rw p (made_out s e (rw p at o))
sounds_by s n false e p o = let q = ap (λ (x : Sender). x.out) p in never (cc)

pub sounds_out : {s n : Sender} → Sounds s n → n.out ≡ true → Out n
unfolding sound_of
sounds_out {s} {n} k o = sounds_by s n (made_of s) refl k.is o

within_by : (s : Sender) (d : Bool) → made_of s ≡ d → (pick d s (idle_control s.failed)).at + (pick d s (idle_control s.failed)).size ≤ 4096
within_by s true e =
    let k = made_lies s e in
    let within = k.within in
    let fits = k.fits in
    omega arith
within_by s false e = omega arith

pub sound_within : (s : Sender) → (sound_of s).at + (sound_of s).size ≤ 4096
unfolding sound_of
sound_within s = within_by s (made_of s) refl

-- The last piece that it keeps is one that fits into a packet.
kept_by : (s n : Sender) (d : Bool) → made_of s ≡ d → n ≡ pick d s (idle_control s.failed) → n.size ≤ 250
kept_by s n true e p = rw p (made_lies s e).small
kept_by s n false e p = rw p (omega arith)

pub sounds_small : {s n : Sender} → Sounds s n → n.size ≤ 250
unfolding sound_of
sounds_small {s} {n} k = kept_by s n (made_of s) refl k.is

again_by : (s : Sender) (d : Bool) → made_of s ≡ d → sound_of (pick d s (idle_control s.failed)) ≡ pick d s (idle_control s.failed)
unfolding sound_of made_of placed_of sized_of
again_by s true e = simp e
again_by s false e = refl

-- What is sound stays as it is.
pub sound_again : (s : Sender) → sound_of (sound_of s) ≡ sound_of s
unfolding sound_of
sound_again s = again_by s (made_of s) refl
