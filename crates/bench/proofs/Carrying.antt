-- What the protocol proof needs to know of packets, and nothing else: a packet that the hub does not have carries it from what is gathered
-- to more, or to the whole message; one that it has is only acknowledged. Proved once from the cut of a message. Assumes nothing.
use Prim.Native.Nat.{ℕ, ◌+◌, ◌/◌, ◌%◌, ◌≤◌, ◌<◌}
use mathlib.Core.Path.{◌≡◌, refl, ap, ◌∙◌}
use mathlib.Core.Bool.{false}
use mathlib.Core.List.{List, [], ◌∷◌, ◌++◌}
use native.Mathlib.Omega.{arith}
use lib.Dec.{eqb}
use lib.ListN.{length, get_or, take, drop}
use borrow.Author.Tests.{eq-eqb}
use Rattle.words.specs.Lists.{Bytes, same_bytes}
use Rattle.words.proofs.Lists.{bytes_cons, bytes_take, bytes_drop, both_false, same_refl}
use Rattle.packet.specs.Opcodes.{host, reader, decode_data}
use Rattle.packet.specs.Packet.{body_of, seal, reply_body, unmarked, marked, resent_equal}
use Rattle.packet.specs.Sizes.{message_size}
use Rattle.packet.specs.declared.Reply.TheVariants.{Ack}
use Rattle.packet.proofs.Theorems.{Body, body_of_lem}
use Rattle.packet.proofs.Marks.{unmarked_of, marked_of}
use Rattle.hub.specs.Joiner.{Gathered, none, some, Joiner, Output, added, repeated, handed, acknowledged, other_type, bytes_of}
use Rattle.hub.specs.Hub.{packet_step}
use Rattle.hub.proofs.Theorems.{repeat_acknowledged, piece_decodes}
use Rattle.sender.specs.Pieces.{next_size, bodies_of, packets_of}
use Rattle.sender.proofs.Cutting.{Cut, last, more, left_behind, pieces_are_cut, cut_some, bodies_more}
use Rattle.sender.proofs.Pieces as apart
use Rattle.sender.proofs.Pieces.{Apart, cut_apart}
use Rattle.bench.specs.Bench.{Message, handing, hub_answers}
use Rattle.bench.proofs.Whole.{piece_body, Takes, no_repeat, piece_added, piece_handed, takes_less, takes_rest, piece_first}

-- ---- the relations

-- A joiner without a bar.
abbrev pub free : List ℕ → Gathered → Joiner
free l g = record { barred = false; last = l; gathered = g }

-- The first copy of a packet, and any other.
pub data Copy (p : List ℕ) : List ℕ → Type 0 where
  first : Copy p p
  another : Copy p (marked p)

-- The last accepted packet is not this one.
abbrev pub New : List ℕ → List ℕ → Type 0
New l p = same_bytes l p ≡ false

-- Any copy of this packet, where it is new, is told as this and leaves this gathered.
abbrev pub Moves : Gathered → List ℕ → Output → Gathered → Type 0
Moves g p o g' = (l c : List ℕ) → Copy p c → New l p → packet_step (free l g) c ≡ record { next = free p g'; told = acknowledged o }

-- A packet that can be sent: both its copies are packets, the marks tell them apart, and where it is the last accepted one the other copy
-- is only acknowledged.
pub record Sendable (p : List ℕ) : Type 0 where
  pub body : Body p
  pub even : get_or p 3 0 % 2 ≡ 0
  pub odd : get_or (marked p) 3 0 % 2 ≡ 1
  pub repeats : (g : Gathered) → packet_step (free p g) (marked p) ≡ record { next = free p g; told = acknowledged repeated }

-- These packets still carry the hub from what is gathered to the whole message.
pub data Carries (code : ℕ) (whole : List ℕ) : Gathered → List (List ℕ) → Type 0 where
  ends : {g : Gathered} {p : List ℕ} → Sendable p → Moves g p (handed code whole) none → Carries code whole g (p ∷ [])
  goes : {g g' : Gathered} {p q : List ℕ} {qs : List (List ℕ)} → Sendable p → Moves g p added g' → New p q → Carries code whole g' (q ∷ qs) → Carries code whole g (p ∷ q ∷ qs)

-- The packet behind one that is added is another one.
carry_on : {code : ℕ} {whole : List ℕ} {g g' : Gathered} {p : List ℕ} {ps : List (List ℕ)} → Sendable p → Moves g p added g' → Apart (p ∷ ps) → Carries code whole g' ps →
    Carries code whole g (p ∷ ps)
carry_on s m apart.lone k = elim k [ ]
carry_on s m (apart.next n a) k = goes s m n k

-- ---- one piece

-- A copy of a piece's packet is that packet with another status, of the same half: still unmarked the same, and no repeat where it is new.
record OfPiece (t code : ℕ) (p l c : List ℕ) : Type 0 where
  status : ℕ
  is : c ≡ piece_body status code p
  half : status / 2 ≡ t / 2
  bare : unmarked (piece_body status code p) ≡ piece_body t code p
  new : resent_equal l (piece_body status code p) ≡ false

module _ (t code : ℕ) (p : List ℕ) (even : t % 2 ≡ 0) where
  unmarked_piece : (s : ℕ) → s / 2 ≡ t / 2 → unmarked (piece_body s code p) ≡ piece_body t code p
  unmarked_piece s h = unmarked_of decode_data reader t s (code ∷ p) even h

  marked_piece : marked (piece_body t code p) ≡ piece_body (t + 1) code p
  marked_piece = marked_of decode_data reader t (code ∷ p) even

  of_piece : {l c : List ℕ} → Copy (piece_body t code p) c → New l (piece_body t code p) → OfPiece t code p l c
  unfolding resent_equal
  of_piece {l} first n = record { status = t; is = refl; half = refl; bare = unmarked_piece t refl; new = no_repeat (free l none) t code p even }
  of_piece {l} another n =
      let b = piece_body (t + 1) code p in
      let bare = unmarked_piece (t + 1) (omega arith) in
      let new = both_false (eqb (get_or b 3 0 % 2) 1) (same_bytes l (unmarked b)) (ap (same_bytes l) bare ∙ n) in
      record { status = t + 1; is = marked_piece; half = omega arith; bare = bare; new = new }

  module _ (low : t < 4) where
    repeats_piece : (g : Gathered) →
        packet_step (free (piece_body t code p) g) (marked (piece_body t code p)) ≡ record { next = free (piece_body t code p) g; told = acknowledged repeated }
    unfolding body_of resent_equal
    repeats_piece g =
        let b = piece_body t code p in
        rw marked_piece
        (repeat_acknowledged (free b g) refl (piece_decodes (t + 1) code p (omega arith))
        (simp (eq-eqb ((t + 1) % 2) 1 (omega arith), unmarked_piece (t + 1) (omega arith)) (same_refl b)))

    sendable : code < 256 → Bytes p → length p ≤ 250 → Sendable (piece_body t code p)
    unfolding body_of
    sendable c bytes few =
        record {
          body = body_of_lem decode_data reader t (code ∷ p) (omega arith) (omega arith) (omega arith) (bytes_cons c bytes) (omega arith);
          even = even;
          odd = rw marked_piece (omega arith);
          repeats = repeats_piece;
        }

-- The hub has room for so many bytes of this type behind what is gathered, whatever it accepted last.
abbrev Room : Gathered → ℕ → ℕ → Type 0
Room g code n = (l : List ℕ) → Takes (free l g) code n

room_behind : {j : Joiner} {code n : ℕ} → Takes j code n → Room j.gathered code n
room_behind k l = record { free = refl; same = k.same; fits = k.fits }

module _ (g : Gathered) (code : ℕ) (p : List ℕ) (room : Room g code (length p)) where
  last_moves : Moves g (piece_body 0 code p) (handed code (bytes_of g ++ p)) none
  last_moves l c k n =
      let o = of_piece 0 code p refl k n in
      let h = o.half in
      rw o.is (piece_handed (free l g) o.status code p o.new (room l) (omega arith) ∙ rw o.bare refl)

  more_moves : Moves g (piece_body 2 code p) added (some code (bytes_of g ++ p))
  more_moves l c k n =
      let o = of_piece 2 code p refl k n in
      let h = o.half in
      rw o.is (piece_added (free l g) o.status code p o.new (room l) (omega arith) ∙ rw o.bare refl)

-- ---- a message

pieces_carry : (code : ℕ) {b m : List ℕ} {ps : List (List ℕ)} (g : Gathered) → code < 256 → Bytes m → Cut b m ps → Room g code (length m) →
    Carries code (bytes_of g ++ m) g (bodies_of code ps)
unfolding bodies_of bytes_of
pieces_carry code g c bytes (last {m = m} h) room = ends (sendable 0 code m refl (omega arith) c bytes h) (last_moves g code m room)
pieces_carry code g c bytes (more {b} {m} {ps} h k) room =
    let n = next_size b m in
    let p = take n m in
    let rest = drop n m in
    let w = left_behind b m h in
    let front = w.front in
    let behind = w.behind in
    let inside = w.some in
    let few = w.takes.most in
    let some_left = cut_some k in
    let apart : Apart (bodies_of code (p ∷ ps)) = cut_apart code (more {b = b} {m = m} h k) in
    let fits : Room g code (length p) = λ l. takes_less (omega arith) (room l) in
    let left : Room (some code (bytes_of g ++ p)) code (length rest) = room_behind (takes_rest (free [] g) 2 code p (takes_less (omega arith) (room []))) in
    rw (bodies_more code p ps some_left, piece_first n (bytes_of g) m)
    (carry_on (sendable 2 code p refl (omega arith) c (bytes_take n bytes) (omega arith)) (more_moves g code p fits) (rw (bodies_more code p ps some_left) at apart)
    (pieces_carry code (some code (bytes_of g ++ p)) c (bytes_drop n bytes) k left))

-- The packets of any message carry a hub that has gathered nothing to that message.
pub packets_carry : (code : ℕ) (m : List ℕ) → code < 256 → Bytes m → length m ≤ message_size → Carries code m none (packets_of code m)
unfolding packets_of other_type bytes_of
packets_carry code m c bytes few = pieces_carry code none c bytes (pieces_are_cut m) (λ l. record { free = refl; same = refl; fits = omega arith })

-- ---- the next packet

-- The hub has a packet: those behind it, of which the next is another one, still carry on, or there are none and the message is handed out.
pub data Onward (code : ℕ) (whole p : List ℕ) : Gathered → List (List ℕ) → List Message → List Message → Type 0 where
  goes_on_lem : {g : Gathered} {q : List ℕ} {qs : List (List ℕ)} {xs : List Message} → New p q → Carries code whole g (q ∷ qs) → Onward code whole p g (q ∷ qs) xs xs
  came_out : {xs : List Message} → Onward code whole p none [] xs (record { code = code; bytes = whole } ∷ xs)

pub record Next (code : ℕ) (whole : List ℕ) (g : Gathered) (p : List ℕ) (ps : List (List ℕ)) : Type 0 where
  pub told : Output
  pub acked : hub_answers (acknowledged told) ≡ seal (reply_body host Ack) ∷ []
  pub gathered : Gathered
  pub moves : Moves g p told gathered
  pub onward : (xs : List Message) → Onward code whole p gathered ps xs (handing (acknowledged told) xs)

pub first_sendable : {code : ℕ} {whole : List ℕ} {g : Gathered} {p : List ℕ} {ps : List (List ℕ)} → Carries code whole g (p ∷ ps) → Sendable p
first_sendable (ends s m) = s
first_sendable (goes s m n k) = s

pub next : {code : ℕ} {whole : List ℕ} {g : Gathered} {p : List ℕ} {ps : List (List ℕ)} → Carries code whole g (p ∷ ps) → Next code whole g p ps
unfolding hub_answers handing
next {code} {whole} (ends s m) = record { told = handed code whole; acked = refl; gathered = none; moves = m; onward = λ xs. came_out }
next (goes {g' = g'} s m n k) = record { told = added; acked = refl; gathered = g'; moves = m; onward = λ xs. goes_on_lem n k }
