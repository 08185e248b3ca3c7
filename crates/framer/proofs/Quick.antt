-- One law for each answer of the short way. Assumes nothing.
use Prim.Native.Nat.{ℕ, ◌+◌, ◌-◌, ◌≤◌, ◌<◌}
use mathlib.Core.Path.{◌≡◌, refl, sym, ◌∙◌}
use mathlib.Core.Bool.{Bool, true, false}
use mathlib.Core.Logic.{◌⊎◌, inl, inr}
use mathlib.Core.List.{List, [], ◌∷◌, ◌++◌}
use native.Mathlib.Omega.{arith}
use lib.Dec.{eqb}
use lib.ListN.{length, get_or, take, drop, set, length-take, length-drop, length-append, take-append-drop, get_or-append}
use lib.Seq.{get_or-take}
use borrow.Author.Tests.{lt-ltb, le-ltb, ne_eqb, eqb-true}
use Rattle.std.specs.Prelude.{Result, Ok, Err, Some, None}
use Rattle.words.specs.Lists.{Bytes}
use Rattle.words.proofs.Lists.{never, bytes_take, bytes_drop}
use Rattle.packet.specs.Packet.{check_of}
use Rattle.packet.specs.Refusals.{number_of}
use Rattle.packet.specs.Sizes.{packet_size}
use Rattle.packet.specs.declared.Head.{Head}
use Rattle.packet.specs.declared.Refusal.{Refusal}
use Rattle.packet.specs.declared.Refusal.TheVariants.{Cut}
use Rattle.packet.proofs.Theorems.{few_cut, turned}
use Rattle.framer.specs.Framer.{silent, judged, at_byte, framer_step}
use Rattle.framer.specs.Promises.{begun_of, line_of, Begun, Frames}
use Rattle.framer.specs.Halves.{line_size, place_of, half_of, line_in, halves_with, tells_nothing, goes_on, going_by, GoesOn, on, left, Listens, Inside, Place}
use Rattle.framer.specs.declared.Event.{Event}
use Rattle.framer.specs.declared.Event.TheVariants.{Byte, CharacterGap, MessageGap}
use Rattle.framer.specs.declared.Found.TheVariants.{Nothing}
use Rattle.framer.specs.declared.Framer.{Framer}
use Rattle.framer.specs.declared.Going.{Going}
use Rattle.framer.specs.declared.Going.TheVariants.{On, Woken, Left}
use Rattle.framer.proofs.Outcomes.{brings, told_refused, found_is}
use Rattle.framer.proofs.Steps.{so_far, line_hearing, byte_deaf, byte_refused, gap_deaf, gap_idle, gap_cut, gap_frames}
use Rattle.framer.proofs.TwoHalves.{listens, listened_nothing, place_most}

-- ---- a byte in one half

-- What the framer tells of a byte where the check does not ask for more: a length below 4, or all bytes there.
pub low_told : (s : List ℕ) → (length s ≡ 0 → ⊥) → get_or s 0 0 < 4 → silent (judged s (check_of s)).told ≡ false
unfolding check_of judged silent
low_told s some l = simp (ne_eqb (length s) 0 some, lt-ltb (get_or s 0 0) 4 l)

pub whole_told_lem : (s : List ℕ) → get_or s 0 0 + 2 ≤ length s → silent (judged s (check_of s)).told ≡ false
unfolding judged silent
whole_told_lem s l = by (check_of s) refl
  where
    refused_by : (x : Refusal) (d : Bool) → eqb (number_of x) 3 ≡ d → check_of s ≡ Err x → silent (judged s (Err x)).told ≡ false
    refused_by x true e q = let m = (turned s q).cut (eqb-true (number_of x) 3 e) in absurd (omega arith)
    refused_by x false e q = simp e

    by : (c : Result Head Refusal) → check_of s ≡ c → silent (judged s c).told ≡ false
    by (Ok h) q = refl
    by (Err x) q = refused_by x (eqb (number_of x) 3) refl q

-- The first byte of a packet of which n bytes stand in the line and b comes: its length.
pub record First (line : List ℕ) (n b w : ℕ) : Type 0 where
  pub is : w ≡ get_or (take n line ++ (b ∷ [])) 0 0

pub first_comes : {line : List ℕ} {b w : ℕ} → w ≡ b → First line 0 b w
first_comes e = record { is = e }

pub first_stands : {line : List ℕ} {n b w : ℕ} → packet_size ≤ length line → (n ≡ 0 → ⊥) → w ≡ get_or line 0 0 → First line n b w
first_stands {line} {n} {b} long some e =
    let size : 0 < length (take n line) = simp length-take (omega arith) in
    record { is = e ∙ sym (get_or-append (take n line) (b ∷ []) 0 0 size ∙ get_or-take n line 0 0 (omega arith)) }

module _ {f : Framer} {line : List ℕ} {b n w : ℕ} (long : packet_size ≤ length line) (hears : f.deaf ≡ false) (begun : Begun f n) (first : First line n b w) where
  size : length (take n line ++ (b ∷ [])) ≡ n + 1
  size = let most = begun.most in simp (length-append, length-take) (omega arith)

  -- The framer judges them.
  heard : silent (framer_step (line_of f line) (Byte b)).told ≡ silent (judged (take n line ++ (b ∷ [])) (check_of (take n line ++ (b ∷ [])))).told
  unfolding framer_step at_byte
  heard = rw (line_hearing f line hears begun) refl

  pub inside_low : w < 4 → Inside f line b None line
  inside_low l =
      let k = size in
      let e = first.is in
      record { frames = λ z. never (cc); left = λ z. (refl, heard ∙ low_told (take n line ++ (b ∷ [])) (λ y. omega arith) (omega arith)) }

  pub inside_past : w < n → Inside f line b None line
  inside_past l =
      let k = size in
      let e = first.is in
      record { frames = λ z. never (cc); left = λ z. (refl, heard ∙ whole_told_lem (take n line ++ (b ∷ [])) (omega arith)) }

  pub inside_stored : 4 ≤ w → n ≤ w → Inside f line b (Some (n + 1)) (set line n b)
  inside_stored low l =
      let k = size in
      let e = first.is in
      let few : check_of (take (n + 1) (set line n b)) ≡ Err Cut =
      rw (so_far f line n b long hears begun) (few_cut (take n line ++ (b ∷ [])) (omega arith) (omega arith)) in
      record {
        frames = λ {n = m} z. let same : m ≡ n + 1 = cc in rw same (byte_refused long hears begun (record { is = sym few }) refl refl (record { is = refl }));
        left = λ z. never (cc);
      }

-- Nothing is begun.
pub begun_zero : {f : Framer} → (f.count ≡ 0) ⊎ (packet_size ≤ f.count) → Begun f 0
unfolding begun_of
begun_zero (inl e) = record { is = simp e; most = omega arith }
begun_zero {f} (inr h) = record { is = simp (le-ltb f.count packet_size h); most = omega arith }

-- ---- the two halves

-- A part that comes back as it was.
whole_again : (a k : ℕ) (s : List ℕ) → take a s ++ (take k (drop a s) ++ drop k (drop a s)) ≡ s
whole_again a k s = rw (take-append-drop k (drop a s)) (take-append-drop a s)

module _ {f next : Framer} {second : Bool} {buffer : List ℕ} {g : Going} (some : g ≡ Left → ⊥) (t : g ≡ going_by f.deaf next.deaf next.count) where
  -- Where nothing was found, nothing was told.
  goes_byte : {buffer' : List ℕ} {b : ℕ} →
      ((last : ℕ) → Listens (halves_with f second last) buffer (Byte b) (record { halves = halves_with next second last; found = Nothing }) buffer') →
      GoesOn f second buffer (Byte b) g buffer'
  unfolding goes_on tells_nothing silent
  goes_byte k = on some t (rw (listened_nothing (k 0) refl) refl) k

  goes_gap : {buffer' : List ℕ} →
      ((last : ℕ) → Listens (halves_with f second last) buffer CharacterGap (record { halves = halves_with next second last; found = Nothing }) buffer') →
      GoesOn f second buffer CharacterGap g buffer'
  unfolding goes_on tells_nothing silent
  goes_gap k = on some t (rw (listened_nothing (k 0) refl) refl) k

-- An event that changes no byte of the half changes none at all.
pub still : {f next : Framer} {second : Bool} {buffer : List ℕ} {e : Event} → length buffer ≡ line_size → Bytes buffer →
    ((line : List ℕ) → packet_size ≤ length line → Frames f line e (record { framer = next; found = Nothing }) line) →
    (last : ℕ) → Listens (halves_with f second last) buffer e (record { halves = halves_with next second last; found = Nothing }) buffer
still {f} {next} {second} {buffer} {e} long bytes frames last =
    let a = place_of second in
    let most = place_most second in
    let place : Place second a = record { is = refl; most = most } in
    let back : take a buffer ++ (take (a + packet_size - a) (drop a buffer) ++ drop (a + packet_size - a) (drop a buffer)) ≡ buffer = whole_again a (a + packet_size - a) buffer in
    rw back at
    (listens {h = halves_with f second last} {buffer = buffer} {e = e} long place (frames (take (a + packet_size - a) (drop a buffer)) (simp (length-take, length-drop) (omega arith))) (rw back bytes))

pub carry_deaf : {f : Framer} {second : Bool} {buffer : List ℕ} {b : ℕ} → length buffer ≡ line_size → Bytes buffer → f.deaf ≡ true →
    GoesOn f second buffer (Byte b) (On 0) buffer
carry_deaf long bytes e = goes_byte {next = record { count = 0; deaf = true }} (λ z. never (cc)) (rw e refl) (still long bytes (λ line h. byte_deaf h e (record { is = refl })))

pub carry_on : {f : Framer} {second : Bool} {buffer half : List ℕ} {b a r : ℕ} → length buffer ≡ line_size → f.deaf ≡ false → Place second a →
    Inside f (take (a + packet_size - a) (drop a buffer)) b (Some r) half → Bytes (take a buffer ++ (half ++ drop (a + packet_size - a) (drop a buffer))) →
    GoesOn f second buffer (Byte b) (On r) (take a buffer ++ (half ++ drop (a + packet_size - a) (drop a buffer)))
carry_on {r = r} long e p k bytes = goes_byte {next = record { count = r; deaf = false }} (λ z. never (cc)) (rw e refl) (λ last. listens long p (k.frames refl) bytes)

pub carry_left : {f : Framer} {second : Bool} {buffer half : List ℕ} {b a : ℕ} → Place second a →
    Inside f (take (a + packet_size - a) (drop a buffer)) b None half →
    GoesOn f second buffer (Byte b) Left (take a buffer ++ (half ++ drop (a + packet_size - a) (drop a buffer)))
unfolding goes_on tells_nothing line_in half_of
carry_left {f} {second} {buffer} {half} {b} {a} p k =
    let size : a + packet_size - a ≡ packet_size = omega arith in
    let told = k.left refl in
    left {buffer' = take a buffer ++ (half ++ drop (a + packet_size - a) (drop a buffer))} (rw (sym p.is) (rw size at told.1)) (rw told.0 (whole_again a (a + packet_size - a) buffer))

-- ---- a gap

module _ {f : Framer} {second : Bool} {buffer : List ℕ} (long : length buffer ≡ line_size) (bytes : Bytes buffer) where
  pub pause_woken : f.deaf ≡ true → GoesOn f second buffer CharacterGap Woken buffer
  pause_woken e = goes_gap {next = record { count = 0; deaf = false }} (λ z. never (cc)) (rw e refl) (still long bytes (λ line h. gap_frames h (gap_deaf e (record { is = refl }))))

  module _ {n : ℕ} (e : f.deaf ≡ false) (begun : Begun f n) where
    pub pause_on : n ≡ 0 → GoesOn f second buffer CharacterGap (On 0) buffer
    pause_on z = goes_gap {next = record { count = 0; deaf = false }} (λ z. never (cc)) (rw e refl) (still long bytes (λ line h. gap_frames h (gap_idle e begun z (record { is = refl }))))

    pub pause_left : (n ≡ 0 → ⊥) → GoesOn f second buffer CharacterGap Left buffer
    unfolding goes_on tells_nothing line_in half_of silent
    pause_left some =
        let most = place_most second in
        let half : List ℕ = take packet_size (drop (place_of second) buffer) in
        let size : packet_size ≤ length half = simp (length-take, length-drop) (omega arith) in
        let k = gap_frames size (gap_cut e begun some (record { is = refl })) in
        let told = told_refused (brings (line_of f half) CharacterGap) (found_is size k (bytes_take packet_size (bytes_drop (place_of second) bytes))) in
        left (rw told refl) refl

-- ---- the events

pub message_gap_left : {f : Framer} {second : Bool} {buffer : List ℕ} {e : Event} → e ≡ MessageGap → GoesOn f second buffer e Left buffer
unfolding goes_on
message_gap_left e = left (rw e refl) refl
