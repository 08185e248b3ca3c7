-- One law for each answer of the functions over the two halves. Assumes nothing.
use Prim.Native.Nat.{ℕ, ◌+◌, ◌-◌, ◌≤◌}
use mathlib.Core.Path.{◌≡◌, refl, sym, ap, ◌∙◌}
use mathlib.Core.Bool.{Bool, true, false, not}
use mathlib.Core.List.{List, [], ◌∷◌, ◌++◌}
use native.Mathlib.Omega.{arith}
use lib.Dec.{leb}
use lib.ListN.{length, take, drop, length-take, length-drop}
use lib.Seq.{drop_at, take_at, length-take-le, take-append-le, take-take}
use borrow.Author.Tests.{le-leb, leb-true}
use Rattle.words.specs.Lists.{pick, Bytes}
use Rattle.words.specs.Machine.{Done}
use Rattle.words.proofs.Lists.{bytes_take, bytes_drop}
use Rattle.packet.specs.Packet.{head_in}
use Rattle.packet.specs.Sizes.{body_size, packet_size}
use Rattle.packet.specs.declared.Refusal.{Refusal}
use Rattle.packet.specs.declared.Head.{Head}
use Rattle.framer.specs.Framer.{Line, hearing, Heard, packet, refused, framer_step}
use Rattle.framer.specs.declared.Found.TheVariants.{Nothing, Packet, Refused}
use Rattle.framer.specs.declared.Listened.{Listened}
use Rattle.framer.proofs.Outcomes.{brings, found_is, view_is, view_idle, told_nothing, told_refused, told_packet}
use Rattle.framer.proofs.Steps.{stored}
use Rattle.framer.proofs.Theorems.{length_after}
use Rattle.framer.specs.Promises.{found_of, framed_of, line_after, Frames}
use Rattle.framer.specs.Halves.{line_size, place_of, half_of, last_of, line_in, kept_in, accepted_of, received_in, listened_of, buffer_after, Listens, moved_of, Place}
use Rattle.framer.specs.declared.Event.{Event}
use Rattle.framer.specs.declared.Framed.{Framed}
use Rattle.framer.specs.declared.Halves.{Halves}

pub listens : {h : Halves} {buffer half : List ℕ} {e : Event} {a : ℕ} {r : Framed} → length buffer ≡ line_size → Place h.second a →
    Frames h.framer (take (a + packet_size - a) (drop a buffer)) e r half →
    Bytes (take a buffer ++ (half ++ drop (a + packet_size - a) (drop a buffer))) →
    Listens h buffer e (record { halves = moved_of h r.framer; found = r.found }) (take a buffer ++ (half ++ drop (a + packet_size - a) (drop a buffer)))
unfolding listened_of buffer_after half_of
listens {h} {buffer = buffer} {half} {e} {a} {r} long p f b =
    let size : a + packet_size - a ≡ packet_size = omega arith in
    let g = rw size at f in
    record {
      is = rw (g.is, p.is) refl;
      buffer_is = rw size (rw (g.line_is, p.is) refl);
      long = long;
      bytes = b;
    }

-- ---- the halves after an event

-- The half that receives has come back.
abbrev back : Bool → List ℕ → List ℕ → List ℕ
back second buffer half = take (place_of second) buffer ++ (half ++ drop packet_size (drop (place_of second) buffer))

pub place_most : (second : Bool) → place_of second ≤ packet_size
unfolding place_of
place_most true = omega arith
place_most false = omega arith

pub last_most : (h : Halves) → last_of h ≤ body_size
unfolding last_of
last_most h = by (leb h.last body_size) refl
  where
    by : (d : Bool) → leb h.last body_size ≡ d → pick d h.last 0 ≤ body_size
    by true e = leb-true h.last body_size e
    by false e = omega arith

last_small : (h : Halves) → h.last ≤ body_size → last_of h ≡ h.last
unfolding last_of
last_small h l = simp (le-leb h.last body_size l)

not_not : (b : Bool) → not (not b) ≡ b
not_not true = refl
not_not false = refl

length_half : (second : Bool) (buffer : List ℕ) → length buffer ≡ line_size → length (half_of second buffer) ≡ packet_size
unfolding half_of
length_half second buffer long = let p = place_most second in simp (length-take, length-drop) (omega arith)

module _ (second : Bool) (buffer half : List ℕ) (long : length buffer ≡ line_size) (size : length half ≡ packet_size) where
  behind_back : drop (place_of second) (back second buffer half) ≡ half ++ drop packet_size (drop (place_of second) buffer)
  behind_back =
      let p = place_most second in
      drop_at (take (place_of second) buffer) (half ++ drop packet_size (drop (place_of second) buffer)) (place_of second) (length-take-le (place_of second) buffer (omega arith))

  half_back : half_of second (back second buffer half) ≡ half
  unfolding half_of
  half_back = rw behind_back (take_at half (drop packet_size (drop (place_of second) buffer)) packet_size size)

  front_back : (n : ℕ) → n ≤ packet_size → take n (drop (place_of second) (back second buffer half)) ≡ take n half
  front_back n h = rw behind_back (take-append-le n half (drop packet_size (drop (place_of second) buffer)) (omega arith))

-- The other half is as it was.
other_back : (second : Bool) (buffer half : List ℕ) (n : ℕ) → length buffer ≡ line_size → length half ≡ packet_size → n ≤ packet_size →
    take n (drop (place_of (not second)) (back second buffer half)) ≡ take n (drop (place_of (not second)) buffer)
unfolding place_of
other_back true buffer half n long size h =
    take-append-le n (take packet_size buffer) (half ++ drop packet_size (drop packet_size buffer)) (simp length-take (omega arith)) ∙ take-take n packet_size buffer h
other_back false buffer half n long size h = rw (drop_at half (drop packet_size buffer) packet_size size) refl

-- So many bytes are kept.
pub length_kept : (h : Halves) (buffer : List ℕ) → length buffer ≡ line_size → length (kept_in h buffer) ≡ last_of h
unfolding kept_in
length_kept h buffer long =
    let p = place_most (not h.second) in
    let m = last_most h in
    simp (length-take, length-drop) (omega arith)

pub kept_accepted : (h : Halves) (buffer : List ℕ) (n : ℕ) → n ≤ body_size → kept_in (accepted_of h n) buffer ≡ received_in h buffer n
unfolding kept_in received_in
kept_accepted h buffer n l = simp (last_small (accepted_of h n) l, not_not h.second, le-leb n packet_size (omega arith))

-- A packet with this head stands in the half that receives, and nothing is begun.
pub record Arrived (r : Listened) (buffer : List ℕ) (d : Head) (s : Done Line Heard) : Type 0 where
  pub told_is : s.told ≡ packet (received_in r.halves buffer d.length) ∷ []
  pub idle : s.next ≡ hearing []
  pub least : 4 ≤ d.length
  pub most : d.length ≤ body_size
  pub long : length (received_in r.halves buffer d.length) ≡ d.length
  pub head_is : d ≡ head_in (received_in r.halves buffer d.length)

headed : {body : List ℕ} {d : Head} {told : List Heard} → told ≡ packet body ∷ [] → found_of told ≡ Packet d → d ≡ head_in body
unfolding found_of
headed {body} {d} e q = let same : Packet (head_in body) ≡ Packet d = rw e at q in cc

-- The half that receives, as the framer leaves it.
abbrev half_after : Halves → List ℕ → Event → List ℕ
half_after h buffer e = line_after h.framer (half_of h.second buffer) e

module _ (h : Halves) (buffer : List ℕ) (e : Event) (long : length buffer ≡ line_size) where
  enough_half : packet_size ≤ length (half_of h.second buffer)
  enough_half = let s = length_half h.second buffer long in omega arith

  size_after : length (half_after h buffer e) ≡ packet_size
  size_after = length_after h.framer (half_of h.second buffer) e enough_half ∙ length_half h.second buffer long

  frames_after : Frames h.framer (half_of h.second buffer) e (framed_of h.framer (half_of h.second buffer) e) (half_after h buffer e)
  frames_after = record { is = refl; line_is = refl }

module _ {h : Halves} {buffer : List ℕ} {e : Event} {r : Listened} {buffer' : List ℕ} (k : Listens h buffer e r buffer') where
  back_is : buffer' ≡ back h.second buffer (half_after h buffer e)
  unfolding buffer_after
  back_is = k.buffer_is

  half_bytes_lem : Bytes (half_after h buffer e)
  unfolding half_of
  half_bytes_lem =
      rw (half_back h.second buffer (half_after h buffer e) k.long (size_after h buffer e k.long)) at (bytes_take packet_size (bytes_drop (place_of h.second) (rw back_is at k.bytes)))

  found_told : found_of (framer_step (line_in h buffer) e).told ≡ r.found
  unfolding line_in listened_of
  found_told = found_is (enough_half h buffer e k.long) (frames_after h buffer e k.long) half_bytes_lem ∙ sym (ap (λ (l : Listened). l.found) k.is)

  halves_are : r.halves ≡ record { framer = (framed_of h.framer (half_of h.second buffer) e).framer; second = h.second; last = h.last }
  unfolding listened_of
  halves_are = ap (λ (l : Listened). l.halves) k.is

  -- What control value and buffer stand for afterwards.
  pub line_listened : line_in r.halves buffer' ≡ (framer_step (line_in h buffer) e).next
  unfolding line_in
  line_listened =
      rw (halves_are, back_is, half_back h.second buffer (half_after h buffer e) k.long (size_after h buffer e k.long))
      (view_is (enough_half h buffer e k.long) (frames_after h buffer e k.long) half_bytes_lem)

  pub kept_listened : kept_in r.halves buffer' ≡ kept_in h buffer
  unfolding kept_in last_of
  kept_listened =
      let m = last_most h in
      rw (halves_are, back_is)
      (other_back h.second buffer (half_after h buffer e) (last_of h) k.long (size_after h buffer e k.long) (omega arith))

  -- What was found is what was told.
  pub listened_nothing : r.found ≡ Nothing → (framer_step (line_in h buffer) e).told ≡ []
  listened_nothing q = told_nothing (brings (line_in h buffer) e) (found_told ∙ q)

  pub listened_refused : {x : Refusal} → r.found ≡ Refused x → (framer_step (line_in h buffer) e).told ≡ refused x ∷ []
  listened_refused q = told_refused (brings (line_in h buffer) e) (found_told ∙ q)

  pub listened_packet : {d : Head} → r.found ≡ Packet d → Arrived r buffer' d (framer_step (line_in h buffer) e)
  unfolding line_in received_in
  listened_packet {d} q =
      let after = stored h.framer (half_of h.second buffer) e (enough_half h buffer e k.long) in
      let w = told_packet (half_of h.second buffer) (brings (line_in h buffer) e) (rw after at half_bytes_lem) (found_told ∙ q) in
      let least = w.least in
      let most = w.most in
      let size = size_after h buffer e k.long in
      let there : received_in r.halves buffer' d.length ≡ take d.length (half_after h buffer e) =
      simp (le-leb d.length packet_size (omega arith)) (rw (halves_are, back_is) (front_back h.second buffer (half_after h buffer e) k.long size d.length (omega arith))) in
      record {
        told_is = rw (there, after) w.told_is;
        idle = w.idle;
        least = least;
        most = most;
        long = rw there (length-take-le d.length (half_after h buffer e) (omega arith));
        head_is = headed (rw (there, after) w.told_is) (found_told ∙ q);
      }

  -- A packet that was found and is accepted: nothing is begun in the other half, and the packet is kept.
  pub line_accepted : (n : ℕ) → (framer_step (line_in h buffer) e).next ≡ hearing [] → line_in (accepted_of r.halves n) buffer' ≡ hearing []
  unfolding line_in
  line_accepted n q =
      rw halves_are (view_idle (enough_half h buffer e k.long) (frames_after h buffer e k.long) half_bytes_lem q (half_of (not h.second) buffer'))

  -- The same for a packet that is accepted or not.
  pub line_behind : (a : Bool) (n : ℕ) → (a ≡ true → (framer_step (line_in h buffer) e).next ≡ hearing []) → line_in (pick a (accepted_of r.halves n) r.halves) buffer' ≡ (framer_step (line_in h buffer) e).next
  line_behind true n idle = line_accepted n (idle refl) ∙ sym (idle refl)
  line_behind false n idle = line_listened

  pub kept_behind : (a : Bool) (n : ℕ) → n ≤ body_size → kept_in (pick a (accepted_of r.halves n) r.halves) buffer' ≡ pick a (received_in r.halves buffer' n) (kept_in h buffer)
  kept_behind true n l = kept_accepted r.halves buffer' n l
  kept_behind false n l = kept_listened

  pub control_behind : (a : Bool) (n : ℕ) (last : List ℕ) → (a ≡ true → length last ≡ n) →
      pick a (accepted_of r.halves n) r.halves ≡ pick a (accepted_of (listened_of h buffer e).halves (length last)) (listened_of h buffer e).halves
  control_behind true n last q = rw (k.is, q refl) refl
  control_behind false n last q = rw k.is refl
