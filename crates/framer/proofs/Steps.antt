-- One law for each answer of the framer's functions. Assumes nothing.
use Prim.Native.Nat.{ℕ, zero, suc, ◌+◌, ◌≤◌, ◌<◌}
use mathlib.Core.Path.{◌≡◌, refl, sym, ap, ◌∙◌}
use mathlib.Core.Bool.{Bool, true, false}
use mathlib.Core.Logic.{◌⊎◌, inl, inr}
use mathlib.Core.List.{List, [], ◌∷◌, ◌++◌}
use native.Mathlib.Numerals.{add-one}
use native.Mathlib.Omega.{arith}
use lib.Dec.{eqb, eqb-suc-zero}
use lib.ListN.{length, take, set, length-append, length-take}
use lib.Seq.{take-suc-set}
use borrow.Author.Tests.{lt-ltb, le-ltb, eq-eqb, ne_eqb}
use Rattle.std.specs.Prelude.{Result, Ok, Err}
use Rattle.words.specs.Lists.{pick}
use Rattle.words.proofs.Lists.{set_over}
use Rattle.packet.specs.Packet.{check_of}
use Rattle.packet.specs.Refusals.{number_of}
use Rattle.packet.specs.Promises.{Check}
use Rattle.packet.specs.Sizes.{packet_size}
use Rattle.packet.specs.declared.Refusal.{Refusal}
use Rattle.packet.specs.declared.Refusal.TheVariants.{Cut, Room}
use Rattle.packet.specs.declared.Head.{Head}
use Rattle.packet.proofs.Theorems.{accepted, accepted_head}
use Rattle.framer.specs.Framer.{hearing, deaf, judged, at_gap, at_byte, framer_step}
use Rattle.framer.specs.Promises.{begun_of, line_of, control_of, found_of, stored_of, framed_of, line_after, Deaf, Ended, Begun, Gap, Unfinished, Frames}
use Rattle.framer.specs.declared.Event.{Event}
use Rattle.framer.specs.declared.Event.TheVariants.{Byte, CharacterGap, MessageGap}
use Rattle.framer.specs.declared.Framer.{Framer}
use Rattle.framer.specs.declared.Found.TheVariants.{Nothing, Packet, Refused}
use Rattle.framer.specs.declared.Framed.{Framed}

pub begun_count : {f : Framer} → f.count < packet_size → Begun f f.count
unfolding begun_of
begun_count {f} h = record { is = simp (lt-ltb f.count packet_size h); most = h }

module _ {f : Framer} {r : Framed} where
  pub gap_deaf : f.deaf ≡ true → Ended Nothing r → Gap f r
  gap_deaf e k = record { is = k.is ∙ simp e }

  module _ {n : ℕ} (e : f.deaf ≡ false) (begun : Begun f n) where
    pub gap_idle : n ≡ 0 → Ended Nothing r → Gap f r
    gap_idle z k = record { is = k.is ∙ simp (e, sym begun.is, eq-eqb n 0 z) }

    pub gap_cut : (n ≡ 0 → ⊥) → Ended (Refused Cut) r → Gap f r
    gap_cut z k = record { is = k.is ∙ simp (e, sym begun.is, ne_eqb n 0 z) }

-- ---- a line buffer that is long enough

pub enough : (f : Framer) (line : List ℕ) (e : Event) → packet_size ≤ length line →
    framed_of f line e ≡ record { framer = control_of (framer_step (line_of f line) e).next; found = found_of (framer_step (line_of f line) e).told }
unfolding framed_of
enough f line e h = simp (le-ltb (length line) packet_size h)

pub stored : (f : Framer) (line : List ℕ) (e : Event) → packet_size ≤ length line → line_after f line e ≡ stored_of e (line_of f line) line
unfolding line_after
stored f line e h = simp (le-ltb (length line) packet_size h)

pub line_deaf : (f : Framer) (line : List ℕ) → f.deaf ≡ true → line_of f line ≡ deaf
unfolding line_of
line_deaf f line e = simp e

pub line_hearing : (f : Framer) (line : List ℕ) {n : ℕ} → f.deaf ≡ false → Begun f n → line_of f line ≡ hearing (take n line)
unfolding line_of
line_hearing f line e b = simp (e, sym b.is)

-- ---- a byte

either_way : (s : List ℕ) (count : ℕ) → length s ≡ count → (x : Refusal) (d : Bool) → eqb (number_of x) 3 ≡ d →
    ◌≡◌ {A = Framed} (record { framer = control_of (judged s (Err x)).next; found = found_of (judged s (Err x)).told })
    (pick (eqb (number_of x) 3) (record { framer = record { count = count; deaf = false }; found = Nothing }) (record { framer = record { count = 0; deaf = true }; found = Refused x }))
unfolding judged found_of
either_way s count long x true e = simp (e, long)
either_way s count long x false e = simp e

pub byte_deaf : {f g : Framer} {line : List ℕ} {b : ℕ} → packet_size ≤ length line → f.deaf ≡ true → Deaf g → Frames f line (Byte b) (record { framer = g; found = Nothing }) line
unfolding framer_step at_byte found_of stored_of
byte_deaf {f} {line = line} {b} h e k =
    record {
      is = rw k.is (sym (enough f line (Byte b) h ∙ rw (line_deaf f line e) refl));
      line_is = sym (stored f line (Byte b) h ∙ rw (line_deaf f line e) refl);
    }

module _ (f : Framer) (line : List ℕ) (at b : ℕ) (h : packet_size ≤ length line) (e : f.deaf ≡ false) (begun : Begun f at) where
  pub so_far : take (at + 1) (set line at b) ≡ take at line ++ (b ∷ [])
  so_far = let m = begun.most in rw (add-one at) (take-suc-set line at b (omega arith))

  heard : (r : Result Head Refusal) → Check (take (at + 1) (set line at b)) r → framer_step (line_of f line) (Byte b) ≡ judged (take at line ++ (b ∷ [])) r
  unfolding framer_step at_byte
  heard r check = rw (line_hearing f line e begun) (rw (check.is, so_far) refl)

  kept : set line at b ≡ line_after f line (Byte b)
  unfolding stored_of
  kept = let m = begun.most in set_over line at b (omega arith) ∙ sym (stored f line (Byte b) h ∙ rw (line_hearing f line e begun) refl)

module _ {f : Framer} {line : List ℕ} {at b : ℕ} {r : Result Head Refusal} (h : packet_size ≤ length line) (e : f.deaf ≡ false) (begun : Begun f at) (check : Check (take (at + 1) (set line at b)) r) where
  pub byte_packet : {u : Framed} {d : Head} → r ≡ Ok d → Ended (Packet d) u → Frames f line (Byte b) u (set line at b)
  unfolding judged found_of
  byte_packet {d = d} q ended =
      let s : List ℕ = take at line ++ (b ∷ []) in
      let is-packet : check_of s ≡ Ok d = ap check_of (sym (so_far f line at b h e begun)) ∙ (sym check.is ∙ q) in
      record {
        is = ended.is ∙ sym (enough f line (Byte b) h ∙ rw (heard f line at b h e begun r check, q) (rw (accepted_head (accepted s is-packet)) refl));
        line_is = kept f line at b h e begun;
      }

  pub byte_refused : {x : Refusal} {u : Framed} {count : ℕ} → r ≡ Err x → count ≡ at + 1 → Unfinished x count u → Frames f line (Byte b) u (set line at b)
  byte_refused {x} {u} {count} q n unfinished =
      let s : List ℕ = take at line ++ (b ∷ []) in
      let m = begun.most in
      let long : length s ≡ count = simp (length-append, length-take) (omega arith) in
      record {
        is = unfinished.is ∙ sym (enough f line (Byte b) h ∙ rw (heard f line at b h e begun r check, q) (either_way s count long x (eqb (number_of x) 3) refl));
        line_is = kept f line at b h e begun;
      }

-- ---- a gap

gap_by : (d : Bool) (n : ℕ) (line : List ℕ) → packet_size ≤ length line →
    ◌≡◌ {A = Framed} (record { framer = control_of (at_gap (pick d deaf (hearing (take n line)))).next; found = found_of (at_gap (pick d deaf (hearing (take n line)))).told })
    (record { framer = control_of (hearing []); found = pick d Nothing (pick (eqb n 0) Nothing (Refused Cut)) })
unfolding at_gap found_of
gap_by true n line h = refl
gap_by false zero line h = refl
gap_by false (suc n) [] h = absurd (omega arith)
gap_by false (suc n) (x ∷ xs) h = simp (eqb-suc-zero n)

pub gap_frames : {f : Framer} {line : List ℕ} {r : Framed} → packet_size ≤ length line → Gap f r → Frames f line CharacterGap r line
unfolding framer_step line_of stored_of
gap_frames {f} {line} h g =
    record {
      is = g.is ∙ sym (enough f line CharacterGap h ∙ gap_by f.deaf (begun_of f) line h);
      line_is = sym (stored f line CharacterGap h);
    }

-- ---- the events

pub hear_room : {f : Framer} {line : List ℕ} {e : Event} → length line < packet_size → Frames f line e (record { framer = f; found = Refused Room }) line
unfolding framed_of line_after
hear_room {f} {line} {e} h = record { is = simp (lt-ltb (length line) packet_size h); line_is = simp (lt-ltb (length line) packet_size h) }

-- A message gap is a character gap to the framer.
same_gap : {f : Framer} {line line' : List ℕ} {r : Framed} → Frames f line CharacterGap r line' → Frames f line MessageGap r line'
unfolding framed_of line_after framer_step stored_of
same_gap k = record { is = k.is; line_is = k.line_is }

pub hear_gap : {f : Framer} {line : List ℕ} {e : Event} {r : Framed} → (e ≡ CharacterGap) ⊎ (e ≡ MessageGap) → packet_size ≤ length line → Gap f r → Frames f line e r line
hear_gap (inl e) h g = rw e (gap_frames h g)
hear_gap (inr e) h g = rw e (same_gap (gap_frames h g))
