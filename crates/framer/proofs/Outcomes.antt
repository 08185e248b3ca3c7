-- What the framer found is what it told: nothing, a refusal, or the packet that stands at the front of its line buffer. Assumes nothing.
use Prim.Native.Nat.{ℕ, ◌+◌, ◌≤◌}
use mathlib.Core.Path.{◌≡◌, refl, sym, ap, ◌∙◌}
use mathlib.Core.Bool.{Bool, true, false}
use mathlib.Core.List.{List, [], ◌∷◌, ◌++◌}
use native.Mathlib.Omega.{arith}
use lib.Dec.{eqb, ltb}
use lib.ListN.{length, get_or, take, drop, get_or-append}
use lib.Seq.{take-append-le}
use Rattle.std.specs.Prelude.{Ok, Err}
use Rattle.words.specs.Lists.{pick, Bytes, over}
use Rattle.words.specs.Machine.{Done}
use Rattle.words.proofs.Lists.{never}
use Rattle.packet.specs.Packet.{body_in, head_in, checksum_in, checksum_of, check_of}
use Rattle.packet.specs.Sizes.{body_size, packet_size}
use Rattle.packet.specs.declared.Refusal.{Refusal}
use Rattle.packet.specs.declared.Refusal.TheVariants.{Length, Checksum, Cut}
use Rattle.packet.specs.declared.Head.{Head}
use Rattle.packet.proofs.Theorems.{accepted, accepted_head}
use Rattle.framer.specs.Framer.{Line, hearing, deaf, Heard, packet, refused, quiet, says, judged, at_gap, at_byte, framer_step}
use Rattle.framer.specs.Promises.{begun_of, line_of, found_of, stored_of, Frames}
use Rattle.framer.specs.declared.Event.{Event}
use Rattle.framer.specs.declared.Event.TheVariants.{Byte, CharacterGap, MessageGap}
use Rattle.framer.specs.declared.Framer.{Framer}
use Rattle.framer.specs.declared.Framed.{Framed}
use Rattle.framer.specs.declared.Found.TheVariants.{Nothing, Packet, Refused}
use Rattle.framer.proofs.Steps.{enough}
use Rattle.framer.proofs.Theorems.{view_after}

-- What one event brings out of a framer: nothing; number 3, and nothing is begun; number 1 or 2, and it is deaf; or the packet that the check
-- finds in the bytes so far, and nothing is begun.
pub data Brings : Line → Event → Done Line Heard → Type 0 where
  nothing : {l next : Line} {e : Event} → Brings l e (quiet next)
  cut : {l : Line} {e : Event} → Brings l e (says (hearing []) (refused Cut))
  low : {l : Line} {e : Event} → Brings l e (says deaf (refused Length))
  wrong : {l : Line} {e : Event} → Brings l e (says deaf (refused Checksum))
  whole : {got : List ℕ} {b : ℕ} {h : Head} → check_of (got ++ (b ∷ [])) ≡ Ok h → Brings (hearing got) (Byte b) (says (hearing []) (packet (body_in (got ++ (b ∷ [])))))

brings_byte : (got s : List ℕ) (b : ℕ) (none small few right : Bool) → s ≡ got ++ (b ∷ []) →
    check_of s ≡ pick none (Err Cut) (pick small (Err Length) (pick few (Err Cut) (pick right (Ok (head_in s)) (Err Checksum)))) →
    Brings (hearing got) (Byte b) (judged s (check_of s))
unfolding judged
brings_byte got s b true small few right e f = rw f nothing
brings_byte got s b false true few right e f = rw f low
brings_byte got s b false false true right e f = rw f nothing
brings_byte got s b false false false true e f = rw f (rw e (whole (rw e at f)))
brings_byte got s b false false false false e f = rw f wrong

brings_gap : (l : Line) (e : Event) → Brings l e (at_gap l)
unfolding at_gap
brings_gap (hearing []) e = nothing
brings_gap (hearing (x ∷ xs)) e = cut
brings_gap deaf e = nothing

pub brings : (l : Line) (e : Event) → Brings l e (framer_step l e)
unfolding framer_step at_byte check_of
brings (hearing got) (Byte b) =
    let s : List ℕ = got ++ (b ∷ []) in
    brings_byte got s b (eqb (length s) 0) (ltb (get_or s 0 0) 4) (ltb (length s) (get_or s 0 0 + 2)) (eqb (checksum_in s) (checksum_of (body_in s))) refl refl
brings deaf (Byte b) = nothing
brings l CharacterGap = brings_gap l CharacterGap
brings l MessageGap = brings_gap l MessageGap

-- ---- what was found is what was told

pub told_nothing : {l : Line} {e : Event} {d : Done Line Heard} → Brings l e d → found_of d.told ≡ Nothing → d.told ≡ []
unfolding found_of
told_nothing nothing q = refl
told_nothing cut q = never (cc)
told_nothing low q = never (cc)
told_nothing wrong q = never (cc)
told_nothing (whole f) q = never (cc)

pub told_refused : {l : Line} {e : Event} {d : Done Line Heard} {x : Refusal} → Brings l e d → found_of d.told ≡ Refused x → d.told ≡ refused x ∷ []
unfolding found_of
told_refused nothing q = never (cc)
told_refused cut q = cc
told_refused low q = cc
told_refused wrong q = cc
told_refused (whole f) q = never (cc)

-- A packet with this head stands at the front of the line buffer.
pub record Whole (line : List ℕ) (h : Head) (d : Done Line Heard) : Type 0 where
  pub told_is : d.told ≡ packet (take h.length line) ∷ []
  pub idle : d.next ≡ hearing []
  pub least : 4 ≤ h.length
  pub most : h.length ≤ body_size

pub told_packet : {l : Line} {e : Event} {d : Done Line Heard} {h : Head} (line : List ℕ) → Brings l e d → Bytes (stored_of e l line) → found_of d.told ≡ Packet h →
    Whole (stored_of e l line) h d
unfolding found_of stored_of over body_in head_in
told_packet line nothing bytes q = never (cc)
told_packet line cut bytes q = never (cc)
told_packet line low bytes q = never (cc)
told_packet line wrong bytes q = never (cc)
told_packet {h = h} line (whole {got} {b} f) bytes q =
    let s : List ℕ = got ++ (b ∷ []) in
    let n = get_or s 0 0 in
    let k = accepted s f in
    let least = k.least in
    let most = k.enough in
    let small = bytes.each 0 in
    let first : get_or (s ++ drop (length s) line) 0 0 ≡ n = get_or-append s (drop (length s) line) 0 0 (omega arith) in
    let head : head_in (take n s) ≡ h = cc in
    let long : h.length ≡ n = ap (λ (x : Head). x.length) (sym head ∙ (accepted_head k ∙ k.head)) in
    record { told_is = rw (long, take-append-le n s (drop (length s) line) (omega arith)) refl; idle = refl; least = omega arith; most = omega arith }

-- The same for one event of a framer whose line buffer is long enough.
module _ {f : Framer} {line : List ℕ} {e : Event} {r : Framed} {line' : List ℕ} (h : packet_size ≤ length line) (k : Frames f line e r line') (bytes : Bytes line') where
  pub found_is : found_of (framer_step (line_of f line) e).told ≡ r.found
  found_is = sym (ap (λ (q : Framed). q.found) (k.is ∙ enough f line e h))

  -- What control value and line buffer stand for afterwards.
  pub view_is : line_of r.framer line' ≡ (framer_step (line_of f line) e).next
  view_is = rw (k.is, k.line_is) (view_after f line e h (rw k.line_is at bytes))

  pub view_idle : (framer_step (line_of f line) e).next ≡ hearing [] → (other : List ℕ) → line_of r.framer other ≡ hearing []
  unfolding line_of begun_of
  view_idle i other = rw (k.is ∙ enough f line e h) (rw i refl)
