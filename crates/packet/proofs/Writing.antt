-- What header and checksum leave in the room, and how they make a packet around its data. Assumes nothing.
use Prim.Native.Nat.{ℕ, ◌+◌, ◌/◌, ◌%◌, ◌<◌, ◌≤◌}
use mathlib.Core.Path.{◌≡◌, refl, sym, ap, ◌∙◌}
use mathlib.Core.List.{List, [], ◌∷◌, ◌++◌}
use native.Mathlib.Nat.{add_comm}
use native.Mathlib.Omega.{arith}
use lib.ListN.{length, take, drop, length-append, length-take, length-drop}
use lib.Seq.{take-append-add}
use lib.Dec.{leb, eqb}
use borrow.Author.Tests.{leb-true, lt-ltb, le-leb, le-ltb}
use mathlib.Core.Bool.{Bool, true, false}
use Rattle.words.specs.Lists.{pick, over, over_at}
use Rattle.words.proofs.Lists.{over_over, over_over_at, length_over_at, take_over, drop_over_at, never}
use Rattle.packet.specs.Opcodes.{cmd_ack, cmd_nak}
use Rattle.packet.specs.Packet.{body_of, checksum_of, seal, status_allowed, source_allowed, fields_of, build_of, written, reply_data, reply_opcode, reply_body}
use Rattle.packet.specs.Promises.{AllowedSource, Allowed, Fields, Headed, Sealed, Build, Put, Fill, Answer, Naks}
use Rattle.packet.specs.Refusals.{cause_of, nak_bytes, nak_of}
use Rattle.packet.specs.Sizes.{data_size, packet_size, answer_size}
use Rattle.packet.specs.declared.Refusal.{Refusal}
use Rattle.packet.specs.declared.Refusal.TheVariants.{Source, Status, Data, Room}
use Rattle.packet.specs.declared.Reply.{Reply}
use Rattle.packet.specs.declared.Reply.TheVariants.{Ack, Nak}
use Rattle.std.specs.Prelude.{Result}
use Rattle.std.specs.Prelude.{Ok, Err}

-- ---- a packet's length

pub length_body : (o s t : ℕ) (d : List ℕ) → length (body_of o s t d) ≡ length d + 4
unfolding body_of
length_body o s t d = omega arith

pub length_seal : (b : List ℕ) → length (seal b) ≡ length b + 2
unfolding seal
length_seal b = length-append b (checksum_of b / 256 % 256 ∷ checksum_of b % 256 ∷ [])

-- ---- what `fields` says

-- What may be written has at most 251 bytes of data, and the packet six more.
pub record Small (n size : ℕ) : Type 0 where
  pub most : n ≤ 251
  pub is : size ≡ n + 6

small_by : (n size : ℕ) (a b d : Bool) → leb n 251 ≡ d →
    pick a (pick b (pick d (Ok (n + 6)) (Err Data)) (Err Status)) (Err Source) ≡ Ok size → Small n size
small_by n size true true true e q = record { most = leb-true n 251 e; is = cc }
small_by n size true true false e q = never (cc)
small_by n size true false d e q = never (cc)
small_by n size false b d e q = never (cc)

pub fields_small : {o s t n size : ℕ} → Fields o s t n (Ok size) → Small n size
unfolding fields_of
fields_small {o} {s} {t} {n} {size} f = small_by n size (source_allowed s) (status_allowed o t) (leb n 251) refl (sym f.is)

pub fields_right : {o s t n : ℕ} {a b : Bool} → AllowedSource s a → a ≡ true → Allowed o t b → b ≡ true → n ≤ data_size → Fields o s t n (Ok (n + 4 + 2))
unfolding fields_of
fields_right {n = n} a x b y h =
    let six : n + 4 + 2 ≡ n + 6 = omega arith in
    record { is = rw six (simp (sym a.is ∙ x, sym b.is ∙ y, le-leb n 251 h)) }

-- ---- `fill`

-- With room enough, building says what `fields` says.
pub enough : (need : ℕ) (room : List ℕ) (o s t n : ℕ) → need ≤ length room → build_of need room o s t n ≡ fields_of o s t n
unfolding build_of
enough need room o s t n h = simp (le-ltb (length room) need h)

pub too_little : (need : ℕ) (room : List ℕ) (o s t n : ℕ) → length room < need → build_of need room o s t n ≡ Err Room
unfolding build_of
too_little need room o s t n h = simp (lt-ltb (length room) need h)

-- The header's four bytes and the data behind them are the body.
around : (room : List ℕ) (o s t n : ℕ) → n + 6 ≤ length room → take (n + 4) (over ((n + 4) ∷ o ∷ s ∷ t ∷ []) room) ≡ body_of o s t (take n (drop 4 room))
unfolding over body_of
around room o s t n h =
    let l : length (take n (drop 4 room)) ≡ n = simp (length-take, length-drop) (omega arith) in
    ap (λ (k : ℕ). take k ((n + 4) ∷ o ∷ s ∷ t ∷ drop 4 room)) (add_comm n 4)
    ∙ (take-append-add ((n + 4) ∷ o ∷ s ∷ t ∷ []) (drop 4 room) n ∙ ap (λ (k : ℕ). (k + 4) ∷ o ∷ s ∷ t ∷ take n (drop 4 room)) (sym l))

pub fill_written : {room room₁ room₂ : List ℕ} {o s t n m size : ℕ} → n + 6 ≤ length room → Fields o s t n (Ok size) →
    Headed room o s t n room₁ → m ≡ n + 4 → Sealed room₁ m room₂ → Fill room o s t n (Ok size) room₂
unfolding written
fill_written {room} {room₁} {room₂} {o} {s} {t} {n} {m} {size} h f d q k =
    let head : List ℕ = (n + 4) ∷ o ∷ s ∷ t ∷ [] in
    let body : List ℕ = body_of o s t (take n (drop 4 room)) in
    let is_body : take m room₁ ≡ body = rw (q, d.is) (around room o s t n h) in
    record {
      is = f.is ∙ sym (enough (n + 6) room o s t n h);
      room_is = k.is ∙ (rw (is_body, d.is) (over_over (seal body) head room (rw (length_seal body, length_body o s t (take n (drop 4 room))) (omega arith))));
    }

-- ---- `put`

-- Data that was put into the room from the fifth byte on, and then sealed around, is what the packet holds; nothing else is left of it.
pub sealed_around : (room d : List ℕ) (o s t n : ℕ) → length d + 6 ≤ length room → n ≡ length d →
    over (seal (body_of o s t (take n (drop 4 (over_at 4 d room))))) (over_at 4 d room) ≡ over (seal (body_of o s t d)) room
sealed_around room d o s t n h e =
    let inside : take n (drop 4 (over_at 4 d room)) ≡ d = rw (drop_over_at 4 d room (omega arith)) (take_over d (drop 4 room) n e) in
    rw inside (over_over_at 4 (seal (body_of o s t d)) d room (omega arith) (rw (length_seal (body_of o s t d), length_body o s t d) (omega arith)))

pub filled : (room d : List ℕ) (o s t need : ℕ) {r : Result ℕ Refusal} {size : ℕ} {room₂ : List ℕ} → length d + 6 ≤ length room → need ≤ length room →
    fields_of o s t (length d) ≡ Ok size → Fill (over_at 4 d room) o s t (length d) r room₂ →
    (r ≡ build_of need room o s t (length d)) × (room₂ ≡ over (written r (seal (body_of o s t d))) room)
unfolding written
filled room d o s t need {r} {size} {room₂} h g e f =
    let long : length (over_at 4 d room) ≡ length room = length_over_at 4 d room (omega arith) in
    let says : r ≡ fields_of o s t (length d) = f.is ∙ enough (length d + 6) (over_at 4 d room) o s t (length d) (omega arith) in
    let is-written : r ≡ Ok size = says ∙ e in (
      says ∙ sym (enough need room o s t (length d) g),
      f.room_is ∙ rw is-written (sealed_around room d o s t (length d) h refl),
    )

pub put_written : {room d part room₂ : List ℕ} {o s t size k : ℕ} {r : Result ℕ Refusal} → length d + 6 ≤ length room → Fields o s t (length d) (Ok size) → k ≡ length d → part ≡ d →
    Fill (take 4 room ++ (part ++ drop k (drop 4 room))) o s t (length d) r room₂ → Put room o s t d r room₂
unfolding over over_at
put_written {room} {d} {part} {room₂} {o} {s} {t} {size} {k} {r} h f e p g =
    let there : take 4 room ++ (part ++ drop k (drop 4 room)) ≡ over_at 4 d room = rw (p, e) refl in
    let done = filled room d o s t (length d + 6) h h (sym f.is) (rw there at g) in
    record { is = done.0 ∙ enough (length d + 6) room o s t (length d) h; room_is = done.1 }

-- ---- what answers

-- With room enough a reply from an allowed source is never refused, and its length is the packet's.
built_reply : (room : List ℕ) (s : ℕ) (y : Reply) → source_allowed s ≡ true → 7 ≤ length room →
    build_of 7 room (reply_opcode y) s 0 (length (reply_data y)) ≡ Ok (length (seal (reply_body s y)))
unfolding fields_of status_allowed seal reply_body reply_opcode reply_data body_of
built_reply room s Ack a h = enough 7 room cmd_ack s 0 0 h ∙ simp a
built_reply room s (Nak cause) a h = enough 7 room cmd_nak s 0 1 h ∙ simp a

module _ {room room' : List ℕ} {s : ℕ} {y : Reply} {r : Result ℕ Refusal} (a : source_allowed s ≡ true) (h : 7 ≤ length room) (k : Answer room s y r room') where
  pub reply_written : {n : ℕ} → r ≡ Ok n → (n ≡ length (seal (reply_body s y))) × (room' ≡ over (seal (reply_body s y)) room)
  unfolding written
  reply_written e =
      let b = built_reply room s y a h in
      let i = k.is in
      (cc, rw e at k.room_is)

  pub reply_never : {x : Refusal} → r ≡ Err x → ⊥
  reply_never e =
      let b = built_reply room s y a h in
      let i = k.is in
      never (cc)

-- The same of a NAK: never refused, and its length is that of the bytes that answer, which are none where nothing answers.
built_nak : (room : List ℕ) (s : ℕ) (x : Refusal) → source_allowed s ≡ true → answer_size ≤ length room → nak_of room s x ≡ Ok (length (nak_bytes s x))
unfolding nak_of nak_bytes fields_of status_allowed seal reply_body reply_opcode reply_data body_of
built_nak room s x a h = built_by (eqb (cause_of x) 0) refl
  where
    built_by : (b : Bool) → eqb (cause_of x) 0 ≡ b → nak_of room s x ≡ Ok (length (nak_bytes s x))
    built_by true e = simp (le-ltb (length room) answer_size h, e)
    built_by false e = simp (le-ltb (length room) answer_size h, e, a)

module _ {room room' : List ℕ} {s : ℕ} {x : Refusal} {r : Result ℕ Refusal} (a : source_allowed s ≡ true) (h : answer_size ≤ length room) (k : Naks room s x r room') where
  pub nak_length : {n : ℕ} → r ≡ Ok n → (n ≡ length (nak_bytes s x)) × (room' ≡ over (nak_bytes s x) room)
  unfolding written
  nak_length e =
      let b = built_nak room s x a h in
      let i = k.is in
      (cc, rw e at k.room_is)

  pub nak_never : {y : Refusal} → r ≡ Err y → ⊥
  nak_never e =
      let b = built_nak room s x a h in
      let i = k.is in
      never (cc)

-- ---- `build`

-- With room for every packet, building says what `put` says.
pub build_put : {room d room' : List ℕ} {o s t : ℕ} {r : Result ℕ Refusal} → packet_size ≤ length room → Put room o s t d r room' → Build room o s t d r room'
build_put {room} {d} {o = o} {s} {t} h p = record { is = p.is ∙ sym (enough packet_size room o s t (length d) h); room_is = p.room_is }
