-- How long the next piece is, what is compared for the gap, and the copy of the present packet. The type and the piece written behind each other
-- are one write. Assumes nothing.
use Prim.Native.Nat.{ℕ, zero, suc, ◌+◌, ◌-◌, ◌*◌, ◌≤◌, ◌<◌}
use mathlib.Core.Path.{◌≡◌, refl, sym, ap, ◌∙◌}
use mathlib.Core.Bool.{Bool, true, false}
use mathlib.Core.List.{List, [], ◌∷◌, ◌++◌}
use Rattle.std.specs.Prelude.{Result, Ok}
use native.Mathlib.Omega.{arith}
use lib.Dec.{eqb, ltb}
use lib.Pointwise.{pointwise}
use lib.ListN.{length, take, drop, set}
use borrow.Author.Tests.{le-leb, lt-leb}
use Rattle.std.specs.Int.{from_bool}
use Rattle.words.specs.Lists.{pick, same_bytes, over, over_at}
use Rattle.words.proofs.Lists.{pointwise_same}
use Rattle.packet.specs.Opcodes.{reader, decode_data}
use Rattle.packet.specs.Packet.{body_of, seal, source_allowed, fields_of, written}
use Rattle.packet.specs.Promises.{Fill, SizeOf}
use Rattle.packet.specs.declared.Refusal.{Refusal}
use Rattle.packet.proofs.Writing.{length_body, length_seal, enough, filled}
use Rattle.packet.proofs.Judge.{status_piece}
use Rattle.sender.specs.Pieces.{next_size}
use Rattle.sender.specs.Promises.{NextSize, Fills, Presents, Copies, piece_of, present_of}
use Rattle.sender.specs.declared.Sender.{Sender}
use Rattle.sender.specs.declared.Outcome.TheVariants as outcome
use Rattle.sender.proofs.Cutting.{next_fits}

-- ---- the next piece

pub next_is : {before rest : List ℕ} {n : ℕ} → next_size before rest ≡ n → NextSize before rest n
next_is {before} {rest} e = record { is = sym e; sized = rw e at (next_fits before rest).sized }

-- With more behind it: by the comparison with the piece before.
pub next_compared : {before rest : List ℕ} (b : Bool) → 250 < length rest → b ≡ pointwise eqb before (take 250 rest) → NextSize before rest (pick b 249 250)
unfolding next_size
next_compared {before} {rest} b h e = next_is (simp (lt-leb (length rest) 250 h, sym (e ∙ pointwise_same before (take 250 rest))))

-- ---- the gap

-- The last piece, as the code lends it.
pub piece_compared : (s : Sender) (buffer m : List ℕ) → pointwise eqb (take (s.at + s.size - s.at) (drop s.at buffer)) m ≡ same_bytes (piece_of s buffer) m
unfolding piece_of
piece_compared s buffer m =
    let n : s.at + s.size - s.at ≡ s.size = omega arith in
    rw n (pointwise_same (take s.size (drop s.at buffer)) m)

-- ---- the copy

-- A byte at a place and a part right behind it are one write.
two_writes : (a x : ℕ) (q room : List ℕ) → a < length room → over_at (suc a) q (set room a x) ≡ over_at a (x ∷ q) room
unfolding over over_at
two_writes zero x q [] h = absurd (omega arith)
two_writes zero x q (y ∷ ys) h = refl
two_writes (suc a) x q [] h = absurd (omega arith)
two_writes (suc a) x q (y ∷ ys) h = ap (λ (l : List ℕ). y ∷ l) (two_writes a x q ys (omega arith))

-- A piece with its type may always be written: the more bit is allowed for DECODE_DATA.
may : (t n : ℕ) → t < 4 → n ≤ 251 → fields_of decode_data reader t n ≡ Ok (n + 6)
unfolding fields_of source_allowed
may t n h l = simp (status_piece t h, le-leb n 251 l)

-- The type goes into the fifth byte, the piece right behind it, and header and checksum around them.
pub copy_fills : (code : ℕ) {t n size : ℕ} {piece part room room₂ : List ℕ} {r : Result ℕ Refusal} → length piece ≤ 250 → length room ≡ 257 → t < 4 → n ≡ length piece + 1 → part ≡ piece →
    Fill (take 5 (set room 4 code) ++ (part ++ drop (4 + n - 5) (drop 5 (set room 4 code)))) decode_data reader t n r room₂ → SizeOf r size →
    Fills (body_of decode_data reader t (code ∷ piece)) room size room₂
unfolding over over_at written
copy_fills code {t} {n} {size} {piece} {part} {room} {room₂} {r} h l k m same fill sized =
    let first : List ℕ = set room 4 code in
    let held : List ℕ = code ∷ piece in
    let behind : 4 + n - 5 ≡ length piece = omega arith in
    let there : take 5 first ++ (part ++ drop (4 + n - 5) (drop 5 first)) ≡ over_at 4 held room = rw (same, behind) (two_writes 4 code piece room (omega arith)) in
    let says = may t (length held) k (omega arith) in
    let count : n ≡ length held = omega arith in
    let done = filled room held decode_data reader t 257 (omega arith) (omega arith) says (rw (there, count) at fill) in
    let is-written = done.0 ∙ (enough 257 room decode_data reader t (length held) (omega arith) ∙ says) in
    let long : length (seal (body_of decode_data reader t held)) ≡ length held + 6 =
    length_seal (body_of decode_data reader t held) ∙ rw (length_body decode_data reader t held) (omega arith) in
    record { is = sized.is ∙ rw is-written (sym long); room_is = done.1 ∙ rw is-written refl }

-- ---- the present packet

module _ {s : Sender} {buffer room room' : List ℕ} {size : ℕ} where
  present_by : (more marked : Bool) → ltb (s.at + s.size) s.length ≡ more →
      Fills (body_of decode_data reader (from_bool more * 2 + from_bool marked) (s.code ∷ piece_of s buffer)) room size room' → Presents s buffer (from_bool marked) room size room'
  unfolding present_of
  present_by true true e w = record { fills = simp e w }
  present_by true false e w = record { fills = simp e w }
  present_by false true e w = record { fills = simp e w }
  present_by false false e w = record { fills = simp e w }

  -- The more bit and the resend mark, each as a number.
  pub present_as : (marked : Bool) {more mark : ℕ} → more ≡ from_bool (ltb (s.at + s.size) s.length) → mark ≡ from_bool marked →
      Fills (body_of decode_data reader (more * 2 + mark) (s.code ∷ take (s.at + s.size - s.at) (drop s.at buffer))) room size room' → Presents s buffer (from_bool marked) room size room'
  unfolding piece_of
  present_as marked e f w =
      let n : s.at + s.size - s.at ≡ s.size = omega arith in
      present_by (ltb (s.at + s.size) s.length) marked refl (rw (e, f, n) at w)

  -- What is told of it.
  pub copies_as : {mark : ℕ} {gap : Bool} → Presents s buffer mark room size room' → Copies s buffer mark gap room (record { sender = s; outcome = outcome.Copy size gap }) room'
  copies_as k = record { writes = record { is = simp k.fills.is; room_is = k.fills.room_is } }
