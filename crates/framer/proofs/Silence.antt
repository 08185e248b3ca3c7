-- Many bytes at once: bytes that are moved inside a packet, or ignored, are as many events of which nothing is told. Assumes nothing.
use Prim.Native.Nat.{ℕ, suc, ◌+◌, ◌-◌, ◌≤◌, ◌<◌}
use mathlib.Core.Path.{◌≡◌, refl, sym, ap, ◌∙◌}
use mathlib.Core.Bool.{Bool, true, false}
use mathlib.Core.Logic.{◌⊎◌, inl, inr}
use mathlib.Core.List.{List, [], ◌∷◌, ◌++◌, map, append_assoc, append-nil}
use native.Mathlib.Nat.{zero-add, add-sub_cancel_left}
use native.Mathlib.Numerals.{add-one}
use native.Mathlib.Omega.{arith}
use lib.ListN.{length, get_or, take, drop, set, length-append, length-take, length-drop, length-set, take-append-drop, get_or-append}
use lib.Seq.{length-take-le, get_or-take, take-length, drop-length, set_split, drop-set-add, take-set-lt, take-suc-set}
use lib.Dec.{eqb, ltb}
use borrow.Author.Tests.{eqb-true, eqb-false, ltb-true, ltb-false}
use Rattle.words.specs.Lists.{pick, Bytes, over, over_at}
use Rattle.words.specs.Machine.{after, through}
use Rattle.words.proofs.Lists.{bytes_take, bytes_drop, bytes_append, bytes_cons, bytes_head, bytes_tail, set_over_at, over_at_behind, rest_part}
use Rattle.packet.specs.Packet.{check_of}
use Rattle.packet.specs.Sizes.{packet_size}
use Rattle.framer.specs.Framer.{hearing, silent, judged, at_byte, framer_step}
use Rattle.framer.specs.Promises.{Begun, Deaf}
use Rattle.framer.specs.Halves.{line_size, place_of, half_of, line_in, kept_in, halves_with, listened_of, buffer_after, moved_of, Listens, Place}
use Rattle.framer.specs.Silence.{listen_step, silent_for, TakesIn, length_of, InsideOf}
use Rattle.framer.specs.declared.Event.TheVariants.{Byte}
use Rattle.framer.specs.declared.Found.TheVariants.{Nothing}
use Rattle.framer.specs.declared.Framer.{Framer}
use Rattle.framer.specs.declared.Halves.{Halves}
use Rattle.framer.specs.declared.Framed.{Framed}
use Rattle.framer.specs.declared.Listened.{Listened}
use Rattle.framer.proofs.Steps.{begun_count, line_hearing, byte_deaf}
use Rattle.framer.proofs.Quick.{still, low_told, whole_told_lem, inside_stored, First}
use Rattle.framer.proofs.Touching.{set_back}
use Rattle.framer.proofs.TwoHalves.{line_listened, kept_listened, listened_nothing, place_most}

-- ---- one by one

-- Bytes one by one, each as `listen` takes it and with nothing found.
pub data Silently : Halves → List ℕ → List ℕ → Halves → List ℕ → Type 0 where
  none : {h : Halves} {buffer : List ℕ} → Silently h buffer [] h buffer
  more : {h h₁ h' : Halves} {buffer buffer₁ buffer' bs : List ℕ} {b : ℕ} → Listens h buffer (Byte b) (record { halves = h₁; found = Nothing }) buffer₁ →
      Silently h₁ buffer₁ bs h' buffer' → Silently h buffer (b ∷ bs) h' buffer'

silently_stands : {h h' : Halves} {buffer buffer' bs : List ℕ} → Silently h buffer bs h' buffer' →
    through listen_step (record { halves = h; buffer = buffer }) (map Byte bs) ≡ record { next = record { halves = h'; buffer = buffer' }; told = [] }
unfolding through after listen_step
silently_stands none = refl
silently_stands (more k s) = rw (listened_nothing k refl, ← ap (λ (l : Listened). l.halves) k.is, ← k.buffer_is) (silently_stands s)

silently_line : {h h' : Halves} {buffer buffer' bs : List ℕ} → Silently h buffer bs h' buffer' →
    through framer_step (line_in h buffer) (map Byte bs) ≡ record { next = line_in h' buffer'; told = [] }
unfolding through after
silently_line none = refl
silently_line (more k s) = rw (listened_nothing k refl, ← line_listened k) (silently_line s)

silently_kept : {h h' : Halves} {buffer buffer' bs : List ℕ} → Silently h buffer bs h' buffer' → kept_in h' buffer' ≡ kept_in h buffer
silently_kept none = refl
silently_kept (more k s) = silently_kept s ∙ kept_listened k

silently_for : {h h' : Halves} {buffer buffer' bs : List ℕ} (ys : List ℕ) → Silently h buffer bs h' buffer' →
    silent_for (line_in h buffer) (bs ++ ys) ≡ length bs + silent_for (line_in h' buffer') ys
unfolding silent_for silent
silently_for {h} {buffer = buffer} ys none = sym (zero-add (silent_for (line_in h buffer) ys))
silently_for {h' = h'} {buffer' = buffer'} ys (more {bs = bs} k s) =
    let rest = silently_for ys s in
    simp (listened_nothing k refl) (rw (← line_listened k) (omega (arith, rest)))

-- Bytes that the framer takes in silence, and then none, or one of which it tells.
pub taken_in : {h h' : Halves} {buffer buffer' : List ℕ} (n : ℕ) (bytes : List ℕ) → n ≤ length bytes → Silently h buffer (take n bytes) h' buffer' →
    silent_for (line_in h' buffer') (drop n bytes) ≡ 0 → TakesIn h buffer bytes (record { halves = h'; count = n }) buffer'
taken_in {h} {h'} {buffer} {buffer'} n bytes few s end =
    let all = silently_for (drop n bytes) s in
    let size : length (take n bytes) ≡ n = length-take-le n bytes few in
    record {
      count_is = sym (ap (silent_for (line_in h buffer)) (sym (take-append-drop n bytes)) ∙ (all ∙ omega (arith, end, size)));
      few = few;
      stands = silently_stands s;
      line = silently_line s;
      kept = silently_kept s;
    }

-- ---- a deaf framer

deaf_listens : {f : Framer} {second : Bool} {last b : ℕ} {buffer : List ℕ} → length buffer ≡ line_size → Bytes buffer → f.deaf ≡ true →
    Listens (halves_with f second last) buffer (Byte b) (record { halves = halves_with (record { count = 0; deaf = true }) second last; found = Nothing }) buffer
deaf_listens {last = last} long bytes e = still long bytes (λ line h. byte_deaf h e (record { is = refl })) last

pub ignores : {f : Framer} {second : Bool} {last : ℕ} {buffer : List ℕ} (b : ℕ) (bs : List ℕ) → length buffer ≡ line_size → Bytes buffer → f.deaf ≡ true →
    Silently (halves_with f second last) buffer (b ∷ bs) (halves_with (record { count = 0; deaf = true }) second last) buffer
ignores b [] long bytes e = more (deaf_listens long bytes e) none
ignores b (c ∷ cs) long bytes e = more (deaf_listens long bytes e) (ignores c cs long bytes refl)

-- ---- inside a packet

bytes_set : (s : List ℕ) (i b : ℕ) → i < length s → b < 256 → Bytes s → Bytes (set s i b)
bytes_set s i b h l k = rw (set_split s i b h) (bytes_append (bytes_take i k) (bytes_cons l (bytes_drop (suc i) k)))

-- The first of some bytes is the first of them and more.
first_of : (got rest : List ℕ) (b : ℕ) → get_or (got ++ (b ∷ [])) 0 0 ≡ get_or (got ++ (b ∷ rest)) 0 0
first_of got rest b =
    let some : 0 < length (got ++ (b ∷ [])) = simp length-append (omega arith) in
    sym (ap (λ (l : List ℕ). get_or l 0 0) (sym (append_assoc got (b ∷ []) rest)) ∙ get_or-append (got ++ (b ∷ [])) rest 0 0 some)

-- One store into the half that receives.
module _ (second : Bool) (buffer : List ℕ) (n b : ℕ) (long : length buffer ≡ line_size) (l : n < packet_size) where
  length_half : length (half_of second buffer) ≡ packet_size
  unfolding half_of
  length_half = let m = place_most second in simp (length-take, length-drop) (omega arith)

  half_stored : take (n + 1) (half_of second (set buffer (place_of second + n) b)) ≡ take n (half_of second buffer) ++ (b ∷ [])
  unfolding half_of
  half_stored =
      let size = length_half in
      rw (drop-set-add (place_of second) buffer n b, take-set-lt packet_size (drop (place_of second) buffer) n b l, add-one n)
      (take-suc-set (take packet_size (drop (place_of second) buffer)) n b (omega arith))

  -- A byte inside a packet.
  stores : {f : Framer} {last w : ℕ} → Bytes buffer → b < 256 → f.deaf ≡ false → Begun f n → First (half_of second buffer) n b w → 4 ≤ w → n ≤ w →
      Listens (halves_with f second last) buffer (Byte b) (record { halves = halves_with (record { count = n + 1; deaf = false }) second last; found = Nothing }) (set buffer (place_of second + n) b)
  unfolding listened_of buffer_after half_of
  stores {f} {last} {w} bytes small hears begun first low inside =
      let size = length_half in
      let m = place_most second in
      let h : Halves = halves_with f second last in
      let a = place_of second in
      let fr = (inside_stored {f = f} {line = half_of second buffer} (omega arith) hears begun first low inside).frames refl in
      record {
        is = ap (λ (u : Framed). record { halves = moved_of h u.framer; found = u.found }) fr.is;
        buffer_is = sym (set_back a buffer n b (omega arith)) ∙ ap (λ (l : List ℕ). take a buffer ++ (l ++ drop packet_size (drop a buffer))) fr.line_is;
        long = long;
        bytes = bytes_set buffer (a + n) b (omega arith) small bytes;
      }

-- Many of them: they go in silence, and stand behind those before them.
pub record Moves (second : Bool) (last n : ℕ) (f : Framer) (buffer bs : List ℕ) : Type 0 where
  pub silently : Silently (halves_with f second last) buffer bs (halves_with (record { count = n + length bs; deaf = false }) second last) (over_at (place_of second + n) bs buffer)
  pub line : line_in (halves_with (record { count = n + length bs; deaf = false }) second last) (over_at (place_of second + n) bs buffer) ≡ hearing (take n (half_of second buffer) ++ bs)

pub moves : (second : Bool) (last n : ℕ) (f : Framer) (buffer : List ℕ) (b : ℕ) (bs : List ℕ) (w : ℕ) → length buffer ≡ line_size → Bytes buffer → Bytes (b ∷ bs) → f.deaf ≡ false → Begun f n →
    w ≡ get_or (take n (half_of second buffer) ++ (b ∷ bs)) 0 0 → 4 ≤ w → w < 256 → n + length (b ∷ bs) ≤ w + 1 → Moves second last n f buffer (b ∷ bs)
unfolding line_in
moves second last n f buffer b [] w long bytes these hears begun first low small inside =
    let m = place_most second in
    let one = set_over_at buffer (place_of second + n) b (omega arith) in
    let f₁ : Framer = record { count = n + 1; deaf = false } in
    let k = stores second buffer n b long (omega arith) {f = f} {last = last} bytes (bytes_head these) hears begun (record { is = first }) low (omega arith) in
    record {
      silently = rw (← one) (more k none);
      line = rw (← one) (line_hearing f₁ (half_of second (set buffer (place_of second + n) b)) refl (begun_count {f = f₁} (omega arith)) ∙ ap hearing (half_stored second buffer n b long (omega arith)));
    }
moves second last n f buffer b (c ∷ cs) w long bytes these hears begun first low small inside =
    let m = place_most second in
    let a = place_of second in
    let one = set_over_at buffer (a + n) b (omega arith) in
    let f₁ : Framer = record { count = n + 1; deaf = false } in
    let buffer₁ = set buffer (a + n) b in
    let half = half_stored second buffer n b long (omega arith) in
    let k = stores second buffer n b long (omega arith) {f = f} {last = last} bytes (bytes_head these) hears begun (record { is = first ∙ sym (first_of (take n (half_of second buffer)) (c ∷ cs) b) }) low (omega arith) in
    let all : take n (half_of second buffer) ++ (b ∷ c ∷ cs) ≡ take (n + 1) (half_of second buffer₁) ++ (c ∷ cs) = rw half (sym (append_assoc (take n (half_of second buffer)) (b ∷ []) (c ∷ cs))) in
    let rest = moves second last (n + 1) f₁ buffer₁ c cs w (length-set buffer (a + n) b ∙ long) k.bytes (bytes_tail these) refl (begun_count {f = f₁} (omega arith)) (first ∙ ap (λ (l : List ℕ). get_or l 0 0) all) low small (omega arith) in
    let count : n + 1 + length (c ∷ cs) ≡ n + length (b ∷ c ∷ cs) = omega arith in
    let where-is : over_at (a + (n + 1)) (c ∷ cs) buffer₁ ≡ over_at (a + n) (b ∷ c ∷ cs) buffer = rw one (over_at_behind (a + n) (a + (n + 1)) (b ∷ []) (c ∷ cs) buffer (omega arith) (omega arith)) in
    record {
      silently = more k (rw (count, where-is) at rest.silently);
      line = rw (count, where-is, ← all) at rest.line;
    }

-- The next byte is one of which the framer tells.
next_tells : (got rest : List ℕ) → (0 < length rest → (get_or (got ++ rest) 0 0 < 4) ⊎ (get_or (got ++ rest) 0 0 + 1 ≤ length got)) → silent_for (hearing got) rest ≡ 0
unfolding silent_for framer_step at_byte
next_tells got [] h = refl
next_tells got (y ∷ ys) h = simp (told (h (omega arith)))
  where
    s : List ℕ
    s = got ++ (y ∷ [])

    size : length s ≡ length got + 1
    size = length-append got (y ∷ [])

    told : (get_or (got ++ (y ∷ ys)) 0 0 < 4) ⊎ (get_or (got ++ (y ∷ ys)) 0 0 + 1 ≤ length got) → silent (judged s (check_of s)).told ≡ false
    told (inl l) = low_told s (λ z. let e = size in omega arith) (rw (← first_of got ys y) at l)
    told (inr l) = let e = size in let first = first_of got ys y in whole_told_lem s (omega arith)

-- ---- one law for each answer

pub takes_none : {h : Halves} {buffer bytes : List ℕ} → length bytes ≡ 0 → TakesIn h buffer bytes (record { halves = h; count = 0 }) buffer
unfolding silent_for
takes_none {bytes = []} e = taken_in 0 [] (omega arith) none refl
takes_none {bytes = b ∷ bs} e = absurd (omega arith)

pub takes_deaf : {h : Halves} {f : Framer} {buffer bytes : List ℕ} → length buffer ≡ line_size → Bytes buffer → (length bytes ≡ 0 → ⊥) → h.framer.deaf ≡ true → Deaf f →
    TakesIn h buffer bytes (record { halves = moved_of h f; count = length bytes }) buffer
unfolding silent_for
takes_deaf {bytes = []} long k some e d = absurd (some refl)
takes_deaf {h} {buffer = buffer} {bytes = b ∷ bs} long k some e d =
    rw d.is
    (taken_in (length (b ∷ bs)) (b ∷ bs) (omega arith) (rw (take-length (b ∷ bs)) (ignores {f = h.framer} {second = h.second} {last = h.last} b bs long k e)) (rw (drop-length (b ∷ bs)) refl))

-- k bytes were lent from a place on, and came back as these.
pub put_in : (at k : ℕ) (piece room part : List ℕ) → length piece ≡ k → part ≡ piece → take at room ++ (part ++ drop (at + k - at) (drop at room)) ≡ over_at at piece room
unfolding over over_at
put_in at k piece room part size e = rw (add-sub_cancel_left at k, e, size) refl

-- What stands of the packet in the half that receives.
abbrev got_in : Halves → List ℕ → ℕ → List ℕ
got_in h buffer n = take n (half_of h.second buffer)

module _ (h : Halves) (buffer bytes : List ℕ) (a n k : ℕ) (long : length buffer ≡ line_size) (hears : h.framer.deaf ≡ false) (place : Place h.second a) (begun : Begun h.framer n)
    (inside : InsideOf n (take (line_size - a) (drop a buffer)) bytes k) where
  length_got : length (got_in h buffer n) ≡ n
  length_got = let m = begun.most in let size = length_half h.second buffer n 0 long m in length-take-le n (half_of h.second buffer) (omega arith)

  -- Its first byte is the length.
  first_by : (d : Bool) → eqb n 0 ≡ d → pick d (get_or bytes 0 0) (get_or (drop a buffer) 0 0) ≡ get_or (got_in h buffer n ++ bytes) 0 0
  unfolding half_of
  first_by true e = rw (eqb-true n 0 e) refl
  first_by false e =
      let some = eqb-false n 0 e in
      let size = length_got in
      let half = take packet_size (drop (place_of h.second) buffer) in
      rw place.is
      (sym (get_or-append (take n half) bytes 0 0 (omega arith) ∙ (get_or-take n half 0 0 (omega arith) ∙ get_or-take packet_size (drop (place_of h.second) buffer) 0 0 (omega arith))))

  first_is : length_of n (take (line_size - a) (drop a buffer)) bytes ≡ get_or (got_in h buffer n ++ bytes) 0 0
  first_is = let part : take (line_size - a) (drop a buffer) ≡ drop a buffer = rw (← long) (rest_part a buffer) in rw part (first_by (eqb n 0) refl)

  -- What is left of the bytes starts with one of which the framer tells.
  ends_told : silent_for (hearing (got_in h buffer n ++ take k bytes)) (drop k bytes) ≡ 0
  ends_told =
      let e = first_is in
      let all : (got_in h buffer n ++ take k bytes) ++ drop k bytes ≡ got_in h buffer n ++ bytes = append_assoc (got_in h buffer n) (take k bytes) (drop k bytes) ∙ ap (λ (l : List ℕ). got_in h buffer n ++ l) (take-append-drop k bytes) in
      let first : get_or ((got_in h buffer n ++ take k bytes) ++ drop k bytes) 0 0 ≡ length_of n (take (line_size - a) (drop a buffer)) bytes = ap (λ (l : List ℕ). get_or l 0 0) all ∙ sym e in
      let few = inside.few in
      let size : length (got_in h buffer n ++ take k bytes) ≡ n + k = length-append (got_in h buffer n) (take k bytes) ∙ (let g = length_got in let t = length-take-le k bytes few in omega arith) in
      next_tells (got_in h buffer n ++ take k bytes) (drop k bytes)
      (λ some. rw (first, size) (split (length_of n (take (line_size - a) (drop a buffer)) bytes) (inside.ends (let m = length-drop k bytes in omega arith))))
    where
      split : (w : ℕ) → (4 ≤ w → w + 1 ≤ n + k) → (w < 4) ⊎ (w + 1 ≤ n + k)
      split w f = by (ltb w 4) refl
        where
          by : (d : Bool) → ltb w 4 ≡ d → (w < 4) ⊎ (w + 1 ≤ n + k)
          by true e = inl (ltb-true w 4 e)
          by false e = inr (f (ltb-false w 4 e))

  pub takes_left : k ≡ 0 → TakesIn h buffer bytes (record { halves = h; count = k }) buffer
  unfolding line_in
  takes_left z =
      let e = ends_told in
      rw z
      (taken_in 0 bytes (omega arith) none
      (rw (line_hearing h.framer (half_of h.second buffer) hears begun) (rw (append-nil (got_in h buffer n)) at (rw z at e))))

  moved_in : Bytes buffer → Bytes bytes → (t : List ℕ) → take k bytes ≡ t → (length t ≡ 0 → ⊥) → Moves h.second h.last n h.framer buffer t
  moved_in bb cb [] e some = absurd (some refl)
  moved_in bb cb (b ∷ bs) e some =
      let w = length_of n (take (line_size - a) (drop a buffer)) bytes in
      let size : length (b ∷ bs) ≡ k = ap length (sym e) ∙ length-take-le k bytes inside.few in
      let fits = inside.inside (λ z. omega arith) in
      let held = length_got in
      let joined : length (got_in h buffer n ++ (b ∷ bs)) ≡ n + k = length-append (got_in h buffer n) (b ∷ bs) ∙ omega arith in
      let all : got_in h buffer n ++ bytes ≡ (got_in h buffer n ++ (b ∷ bs)) ++ drop k bytes =
      ap (λ (l : List ℕ). got_in h buffer n ++ l) (sym (take-append-drop k bytes)) ∙ (sym (append_assoc (got_in h buffer n) (take k bytes) (drop k bytes)) ∙ rw e refl) in
      let first : w ≡ get_or (got_in h buffer n ++ (b ∷ bs)) 0 0 =
      first_is ∙ (ap (λ (l : List ℕ). get_or l 0 0) all ∙ get_or-append (got_in h buffer n ++ (b ∷ bs)) (drop k bytes) 0 0 (omega arith)) in
      moves h.second h.last n h.framer buffer b bs w long bb (rw e at (bytes_take k cb)) hears begun first fits.0 inside.small (let f = fits.1 in omega arith)

  pub takes_moved : {part : List ℕ} → Bytes buffer → Bytes bytes → (k ≡ 0 → ⊥) → part ≡ take k bytes →
      TakesIn h buffer bytes (record { halves = moved_of h (record { count = n + k; deaf = false }); count = k }) (take (a + n) buffer ++ (part ++ drop (a + n + k - (a + n)) (drop (a + n) buffer)))
  takes_moved {part = part} bb cb some copied =
      let few = inside.few in
      let most = place.most in
      let less = begun.most in
      let size : length (take k bytes) ≡ k = length-take-le k bytes few in
      let fits = inside.inside some in
      let small = inside.small in
      let there : take (a + n) buffer ++ (part ++ drop (a + n + k - (a + n)) (drop (a + n) buffer)) ≡ over_at (place_of h.second + n) (take k bytes) buffer =
      put_in (a + n) k (take k bytes) buffer part size copied ∙ rw place.is refl in
      let m = moved_in bb cb (take k bytes) refl (λ z. some (omega arith)) in
      rw there
      (taken_in k bytes few (rw size at m.silently) (rw (rw size at m.line) ends_told))
