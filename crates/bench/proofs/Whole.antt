-- The law that ties both ends: the packets of any message, fed whole to a hub at rest, are acknowledged one by one, and the hub hands
-- out exactly that message. Pieces go along the cut. Assumes nothing.
use Prim.Native.Nat.{ℕ, zero, suc, ◌+◌, ◌-◌, ◌/◌, ◌%◌, ◌≤◌, ◌<◌}
use mathlib.Core.Path.{◌≡◌, refl, sym, ap, ◌∙◌}
use mathlib.Core.Bool.{false}
use mathlib.Core.List.{List, [], ◌∷◌, ◌++◌, map, flat_map, append_assoc}
use native.Mathlib.Omega.{arith}
use lib.ListN.{length, get_or, take, drop, replicate, take-append-drop, length-append}
use borrow.Author.Tests.{eq-eqb, ne_eqb}
use Rattle.words.specs.Lists.{Bytes, Each, none as no_body, one}
use Rattle.words.specs.Machine.{Done, after, through}
use Rattle.words.proofs.Machine.{through_append, through_one}
use Rattle.packet.specs.Opcodes.{host, reader, decode_data}
use Rattle.packet.specs.Packet.{body_of, seal, reply_body, unmarked, resent_equal}
use Rattle.packet.specs.Sizes.{message_size}
use Rattle.packet.specs.declared.Reply.TheVariants.{Ack}
use Rattle.packet.proofs.Theorems.{Body, data_of}
use Rattle.framer.specs.Framer.{hearing, packet, at_gap, framer_step}
use Rattle.framer.specs.declared.Event.{Event}
use Rattle.framer.specs.declared.Event.TheVariants.{Byte, CharacterGap}
use Rattle.framer.proofs.Theorems.{packet_found}
use Rattle.framer.proofs.Behind.{framed_run}
use Rattle.hub.specs.Joiner.{none, some, Joiner, Output, added, handed, acknowledged, type_in, piece_in, other_type, bytes_of, joined}
use Rattle.hub.specs.Hub.{HubState, switched_on, packet_step, heard_step, hub_step}
use Rattle.hub.proofs.Calm.{Calm, ends, gap, calm_append, calm_bytes, calm_run, heard_packets}
use Rattle.hub.proofs.Theorems.{piece_decodes, piece_joined}
use Rattle.sender.specs.Pieces.{next_size, bodies_of, packets_of}
use Rattle.sender.proofs.Cutting.{Cut, last, more, left_behind, pieces_are_cut, cut_some, bodies_more}
use Rattle.sender.proofs.Pieces.{packets_bodies, packets_number, packets_some}
use Rattle.bench.specs.Bench.{hub_answers}
use Rattle.bench.specs.Whole.{copy_then, copies_of, close_copies_of, Rests, whole_told, TakesIn}

-- ---- one packet of a message at the hub

-- A packet of a message, with this status.
abbrev pub piece_body : ℕ → ℕ → List ℕ → List ℕ
piece_body status code p = body_of decode_data reader status (code ∷ p)

module _ (t code : ℕ) (p : List ℕ) where
  status_in : get_or (piece_body t code p) 3 0 ≡ t
  unfolding body_of
  status_in = refl

  type_in_lem : type_in (piece_body t code p) ≡ code
  unfolding type_in
  type_in_lem = rw (data_of decode_data reader t (code ∷ p)) refl

  piece_in_lem : piece_in (piece_body t code p) ≡ p
  unfolding piece_in
  piece_in_lem = rw (data_of decode_data reader t (code ∷ p)) refl

-- The joiner has room for so many bytes of this type.
pub record Takes (j : Joiner) (code n : ℕ) : Type 0 where
  pub free : j.barred ≡ false
  pub same : other_type j.gathered code ≡ false
  pub fits : length (bytes_of j.gathered) + n ≤ message_size

-- The joiner behind a packet that was added.
abbrev pub with_piece : Joiner → ℕ → ℕ → List ℕ → Joiner
with_piece j t code p = record { barred = false; last = unmarked (piece_body t code p); gathered = some code (bytes_of j.gathered ++ p) }

module _ (j : Joiner) (t code : ℕ) (p : List ℕ) where
  -- Without its mark a packet is no repeat, whatever was accepted last.
  pub no_repeat : t % 2 ≡ 0 → resent_equal j.last (piece_body t code p) ≡ false
  unfolding resent_equal body_of
  no_repeat e = simp (ne_eqb (t % 2) 1 (λ z. omega arith))

  -- What is no repeat, and has room, is joined.
  taken : t < 4 → resent_equal j.last (piece_body t code p) ≡ false → Takes j code (length p) → packet_step j (piece_body t code p) ≡ joined j (piece_body t code p)
  taken h r k = piece_joined j k.free (piece_decodes t code p h) r (rw (type_in_lem t code p) k.same) (rw (piece_in_lem t code p) k.fits)

  -- With the more bit it is added; without it, it ends the message, which is handed out.
  module _ (r : resent_equal j.last (piece_body t code p) ≡ false) (k : Takes j code (length p)) where
    pub piece_added : t / 2 ≡ 1 → packet_step j (piece_body t code p) ≡ record { next = with_piece j t code p; told = acknowledged added }
    unfolding joined
    piece_added e = taken (omega arith) r k ∙ simp (status_in t code p, ne_eqb (t / 2 % 2) 0 (λ z. omega arith), type_in_lem t code p, piece_in_lem t code p)

    pub piece_handed : t / 2 ≡ 0 →
        packet_step j (piece_body t code p)
        ≡ record { next = record { barred = false; last = unmarked (piece_body t code p); gathered = none }; told = acknowledged (handed code (bytes_of j.gathered ++ p)) }
    unfolding joined
    piece_handed e = taken (omega arith) r k ∙ simp (status_in t code p, eq-eqb (t / 2 % 2) 0 (omega arith), type_in_lem t code p, piece_in_lem t code p)

pub takes_less : {j : Joiner} {code n n' : ℕ} → n' ≤ n → Takes j code n → Takes j code n'
takes_less h k = record { free = k.free; same = k.same; fits = let f = k.fits in omega arith }

pub takes_rest : (j : Joiner) (t code : ℕ) (p : List ℕ) {n : ℕ} → Takes j code (length p + n) → Takes (with_piece j t code p) code n
unfolding other_type bytes_of
takes_rest j t code p k = record { free = refl; same = rw (eq-eqb code code refl) refl; fits = let f = k.fits in simp length-append (omega arith) }

-- ---- all packets of a message at the hub

-- So many pieces added, then this message handed out, each acknowledged; nothing is gathered and no bar is set.
pub record Finishes (code : ℕ) (whole : List ℕ) (n : ℕ) (d : Done Joiner Output) : Type 0 where
  pub told_is : d.told ≡ flat_map acknowledged (replicate n added ++ (handed code whole ∷ []))
  pub free : d.next.barred ≡ false
  pub empty : d.next.gathered ≡ none

finishes_after : {code n n' : ℕ} {whole whole' : List ℕ} {d : Done Joiner Output} → n' ≡ suc n → whole' ≡ whole → Finishes code whole n d →
    Finishes code whole' n' (after (acknowledged added) d)
unfolding after flat_map
finishes_after e w k = rw (e, w) (record { told_is = ap (λ (l : List Output). acknowledged added ++ l) k.told_is; free = k.free; empty = k.empty })

-- The first piece goes behind what is gathered already.
pub piece_first : (n : ℕ) (gathered m : List ℕ) → gathered ++ m ≡ (gathered ++ take n m) ++ drop n m
piece_first n gathered m = sym (append_assoc gathered (take n m) (drop n m) ∙ rw (take-append-drop n m) refl)

-- The pieces of a message are joined to it, behind what is gathered already.
pieces_finish : (code : ℕ) {b m : List ℕ} {ps : List (List ℕ)} (j : Joiner) → Cut b m ps → Takes j code (length m) →
    Finishes code (bytes_of j.gathered ++ m) (length ps - 1) (through packet_step j (bodies_of code ps))
unfolding bodies_of through bytes_of flat_map
pieces_finish code j (last {m = m} h) k =
    rw (through_one packet_step j (piece_body 0 code m), piece_handed j 0 code m (no_repeat j 0 code m refl) k refl) (record { told_is = refl; free = refl; empty = refl })
pieces_finish code j (more {b} {m} {ps} h c) k =
    let n = next_size b m in
    let p = take n m in
    let rest = drop n m in
    let w = left_behind b m h in
    let front = w.front in
    let behind = w.behind in
    let inside = w.some in
    let some = cut_some c in
    let room : Takes j code (length p + length rest) = takes_less (omega arith) k in
    let e = piece_added j 2 code p (no_repeat j 2 code p refl) (takes_less (omega arith) k) refl in
    rw (bodies_more code p ps some, e)
    (finishes_after (omega arith) (piece_first n (bytes_of j.gathered) m) (pieces_finish code (with_piece j 2 code p) c (takes_rest j 2 code p room)))

-- ---- copies on the line

calm_copies : {behind : List Event} → Calm behind → (ps : List (List ℕ)) → Calm (flat_map (copy_then behind) ps)
unfolding flat_map copy_then
calm_copies c [] = ends
calm_copies c (p ∷ ps) = calm_append (calm_append (calm_bytes (seal p)) c) (calm_copies c ps)

-- Behind each copy stands what a framer with nothing begun makes nothing of.
module _ (behind : List Event) (calm : Calm behind) (q : through framer_step (hearing []) behind ≡ record { next = hearing []; told = [] }) where
  pub copy_found : (b : List ℕ) → Body b → through framer_step (hearing []) (copy_then behind b) ≡ record { next = hearing []; told = packet b ∷ [] }
  unfolding copy_then after
  copy_found b k = through_append framer_step (hearing []) (map Byte (seal b)) behind ∙ rw (packet_found b k) (rw q refl)

  copies_found : {ps : List (List ℕ)} → Each Body ps → through framer_step (hearing []) (flat_map (copy_then behind) ps) ≡ record { next = hearing []; told = map packet ps }
  unfolding flat_map through after
  copies_found no_body = refl
  copies_found (one {x} {xs} k ks) =
      through_append framer_step (hearing []) (copy_then behind x) (flat_map (copy_then behind) xs) ∙ rw (copy_found x k) (rw (copies_found ks) refl)

  -- Copies of bodies are what the joiner makes of these, one after the other.
  pub copies_run : {ps : List (List ℕ)} (hub : HubState) → hub.line ≡ hearing [] → Each Body ps →
      through hub_step hub (flat_map (copy_then behind) ps)
      ≡ record { next = record { line = hearing []; core = (through packet_step hub.core ps).next }; told = (through packet_step hub.core ps).told }
  copies_run {ps} hub e ks =
      calm_run hub (calm_copies calm ps)
      ∙ (framed_run heard_step hub (flat_map (copy_then behind) ps) ∙ rw (e, copies_found ks, heard_packets hub.core ps) refl)

-- ---- the theorem

-- Each of these is answered by an ACK.
acked : (code : ℕ) (m : List ℕ) (n : ℕ) → hub_answers (flat_map acknowledged (replicate n added ++ (handed code m ∷ []))) ≡ replicate (suc n) (seal (reply_body host Ack))
unfolding hub_answers flat_map
acked code m zero = refl
acked code m (suc n) = ap (λ (l : List (List ℕ)). seal (reply_body host Ack) ∷ l) (acked code m n)

module _ (hub : HubState) (code : ℕ) (m : List ℕ) (r : Rests hub) (c : code < 256) (bytes : Bytes m) (few : length m ≤ message_size) where
  nothing_waits : bytes_of hub.core.gathered ≡ []
  unfolding bytes_of
  nothing_waits = rw r.empty refl

  takes_whole : Takes hub.core code (length m)
  unfolding other_type
  takes_whole = record { free = r.free; same = rw r.empty refl; fits = rw nothing_waits (omega arith) }

  whole_finishes : Finishes code m (length (packets_of code m) - 1) (through packet_step hub.core (packets_of code m))
  unfolding packets_of
  whole_finishes = rw (packets_number code m) (rw nothing_waits at (pieces_finish code hub.core (pieces_are_cut m) takes_whole))

  whole_by : (behind : List Event) → Calm behind → through framer_step (hearing []) behind ≡ record { next = hearing []; told = [] } →
      TakesIn code m (through hub_step hub (flat_map (copy_then behind) (packets_of code m)))
  unfolding whole_told
  whole_by behind calm q =
      let k = whole_finishes in
      let some = packets_some code m in
      let e : suc (length (packets_of code m) - 1) ≡ length (packets_of code m) = omega arith in
      rw (copies_run behind calm q hub r.idle (packets_bodies code m c bytes))
      (record {
        told_is = k.told_is;
        answers = ap hub_answers k.told_is ∙ (acked code m (length (packets_of code m) - 1) ∙ ap (λ (k : ℕ). replicate k (seal (reply_body host Ack))) e);
        rests = record { idle = refl; free = k.free; empty = k.empty };
      })

  -- The packets of any message, each copied once, are acknowledged one by one by a hub at rest, which hands out exactly that message and is
  -- at rest again.
  pub taken_in : TakesIn code m (through hub_step hub (copies_of code m))
  unfolding copies_of through after framer_step at_gap
  taken_in = whole_by (CharacterGap ∷ []) (gap ends) refl

  -- The gaps are not needed.
  pub close_taken_in : TakesIn code m (through hub_step hub (close_copies_of code m))
  unfolding close_copies_of through
  close_taken_in = whole_by [] ends refl

-- So it is with a hub just switched on.
pub switched_on_rests : Rests switched_on
switched_on_rests = record { idle = refl; free = refl; empty = refl }

pub whole : (code : ℕ) (m : List ℕ) → code < 256 → Bytes m → length m ≤ message_size → TakesIn code m (through hub_step switched_on (copies_of code m))
whole code m = taken_in switched_on code m switched_on_rests

pub close_whole : (code : ℕ) (m : List ℕ) → code < 256 → Bytes m → length m ≤ message_size → TakesIn code m (through hub_step switched_on (close_copies_of code m))
close_whole code m = close_taken_in switched_on code m switched_on_rests
