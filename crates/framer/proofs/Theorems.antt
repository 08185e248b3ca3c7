-- What a framer makes of a whole packet, and that its control value and line buffer keep what it stands for. Assumes nothing.
use Prim.Native.Nat.{ℕ, ◌+◌, ◌≤◌, ◌<◌}
use mathlib.Core.Path.{◌≡◌, refl, sym, ap, ◌∙◌}
use mathlib.Core.Bool.{Bool, true, false}
use mathlib.Core.List.{List, [], ◌∷◌, ◌++◌, map, append_assoc, append-nil}
use native.Mathlib.Omega.{arith}
use lib.Dec.{eqb, ltb}
use lib.ListN.{length, get_or, take, length-append, length-take, get_or-append}
use borrow.Author.Tests.{lt-ltb, ltb-true, eqb-true}
use Rattle.std.specs.Prelude.{Result, Ok, Err}
use Rattle.words.specs.Lists.{pick, Bytes, over}
use Rattle.words.specs.Machine.{after, through}
use Rattle.words.proofs.Lists.{take_over, length_over}
use Rattle.packet.specs.Packet.{seal, body_in, head_in, check_of}
use Rattle.packet.specs.Refusals.{number_of}
use Rattle.packet.specs.Sizes.{packet_size}
use Rattle.packet.specs.declared.Head.{Head}
use Rattle.packet.specs.declared.Refusal.{Refusal}
use Rattle.packet.specs.declared.Refusal.TheVariants.{Cut}
use Rattle.packet.proofs.Theorems.{Body, sealed_check, sealed_body, few_cut, turned}
use Rattle.packet.proofs.Writing.{length_seal}
use Rattle.framer.specs.Framer.{Line, hearing, deaf, packet, judged, at_gap, at_byte, framer_step}
use Rattle.framer.specs.Promises.{begun_of, line_of, control_of, stored_of, framed_of, line_after}
use Rattle.framer.specs.declared.Framer.{Framer}
use Rattle.framer.proofs.Steps.{enough, stored}
use Rattle.framer.specs.declared.Event.{Event}
use Rattle.framer.specs.declared.Event.TheVariants.{Byte, CharacterGap, MessageGap}

-- ---- a whole packet

-- The events of these bytes.
abbrev pub bytes_of : List ℕ → List Event
bytes_of s = map Byte s

-- Sealed bytes alone.
alone : (b : List ℕ) → Body b → check_of (seal b) ≡ Ok (head_in b)
alone b k = ap check_of (sym (append-nil (seal b))) ∙ sym (sealed_check b [] k).is

alone_body : (b : List ℕ) → Body b → body_in (seal b) ≡ b
alone_body b k = ap body_in (sym (append-nil (seal b))) ∙ sealed_body b [] k

first_sealed : (b : List ℕ) → 0 < length b → get_or (seal b) 0 0 ≡ get_or b 0 0
unfolding seal
first_sealed b h = get_or-append b _ 0 0 h

-- A front that is not the whole of it is too short.
short : (b got rest : List ℕ) (x y : ℕ) → Body b → got ++ (x ∷ y ∷ rest) ≡ seal b → check_of (got ++ (x ∷ [])) ≡ Err Cut
short b got rest x y k e =
    let s : List ℕ = got ++ (x ∷ []) in
    let whole : s ++ (y ∷ rest) ≡ seal b = append_assoc got (x ∷ []) (y ∷ rest) ∙ e in
    let long : length s + length (y ∷ rest) ≡ length b + 2 = sym (length-append s (y ∷ rest)) ∙ (ap length whole ∙ length_seal b) in
    let some : length s ≡ length got + 1 = length-append got (x ∷ []) in
    let first : get_or s 0 0 ≡ length b =
    sym (get_or-append s (y ∷ rest) 0 0 (omega arith)) ∙ (ap (λ (l : List ℕ). get_or l 0 0) whole ∙ (first_sealed b (omega (arith, k.least)) ∙ k.long)) in
    few_cut s (omega (arith, k.least)) (omega arith)

found : (b got rest : List ℕ) (x : ℕ) → Body b → got ++ (x ∷ rest) ≡ seal b →
    through framer_step (hearing got) (bytes_of (x ∷ rest)) ≡ record { next = hearing []; told = packet b ∷ [] }
unfolding through after framer_step at_byte judged
found b got [] x k e = rw (e, alone b k) (rw (alone_body b k) refl)
found b got (y ∷ rest) x k e = rw (short b got rest x y k e) (found b (got ++ (x ∷ [])) rest y k (append_assoc got (x ∷ []) (y ∷ rest) ∙ e))

-- The bytes of a sealed body, fed to a framer with nothing begun, are found as exactly that packet.
pub packet_found : (b : List ℕ) → Body b → through framer_step (hearing []) (bytes_of (seal b)) ≡ record { next = hearing []; told = packet b ∷ [] }
packet_found b k = by (seal b) refl
  where
    by : (s : List ℕ) → s ≡ seal b → through framer_step (hearing []) (bytes_of s) ≡ record { next = hearing []; told = packet b ∷ [] }
    by [] e = absurd (let z : 0 ≡ length b + 2 = ap length e ∙ length_seal b in omega arith)
    by (x ∷ rest) e = found b [] rest x k e

-- A gap leaves nothing begun, whatever came before it.
pub gap_idle : (l : Line) → (framer_step l CharacterGap).next ≡ hearing []
unfolding framer_step at_gap
gap_idle (hearing []) = refl
gap_idle (hearing (x ∷ xs)) = refl
gap_idle deaf = refl

-- So behind a gap the packet is found, whatever came before.
pub found_behind_gap : (l : Line) (b : List ℕ) → Body b →
    through framer_step l (CharacterGap ∷ bytes_of (seal b)) ≡ record { next = hearing []; told = (framer_step l CharacterGap).told ++ (packet b ∷ []) }
unfolding through after
found_behind_gap l b k = rw (gap_idle l, packet_found b k) refl

-- ---- the control value and the line buffer afterwards

view_hearing : (s line : List ℕ) → length s < packet_size → line_of (control_of (hearing s)) (over s line) ≡ hearing s
unfolding line_of begun_of
view_hearing s line h = simp (lt-ltb (length s) packet_size h, take_over s line (length s) refl)

view_idle : (line : List ℕ) → line_of (control_of (hearing [])) line ≡ hearing []
unfolding line_of begun_of
view_idle line = refl

view_deaf : (line : List ℕ) → line_of (control_of deaf) line ≡ deaf
unfolding line_of
view_deaf line = refl

view_refused : (s line : List ℕ) (x : Refusal) (d : Bool) → eqb (number_of x) 3 ≡ d → check_of s ≡ Err x → get_or s 0 0 < 256 → length s ≤ packet_size →
    line_of (control_of (judged s (Err x)).next) (over s line) ≡ (judged s (Err x)).next
unfolding judged
view_refused s line x true e f b h = let n = (turned s f).cut (eqb-true (number_of x) 3 e) in simp e (view_hearing s line (omega arith))
view_refused s line x false e f b h = simp e (view_deaf (over s line))

view_judged : (s line : List ℕ) (r : Result Head Refusal) → check_of s ≡ r → get_or s 0 0 < 256 → length s ≤ packet_size →
    line_of (control_of (judged s r).next) (over s line) ≡ (judged s r).next
unfolding judged
view_judged s line (Ok head) f b h = view_idle (over s line)
view_judged s line (Err x) f b h = view_refused s line x (eqb (number_of x) 3) refl f b h

-- Fewer bytes are begun than a packet can have.
abbrev pub Short : Line → Type 0
Short (hearing got) = length got < packet_size
Short deaf = Unit {0}

first_over : (got line : List ℕ) (b : ℕ) → get_or (over (got ++ (b ∷ [])) line) 0 0 ≡ get_or (got ++ (b ∷ [])) 0 0
unfolding over
first_over got line b = get_or-append (got ++ (b ∷ [])) _ 0 0 (simp length-append (omega arith))

view_step : (l : Line) (line : List ℕ) (e : Event) → Short l → Bytes (stored_of e l line) → line_of (control_of (framer_step l e).next) (stored_of e l line) ≡ (framer_step l e).next
unfolding framer_step stored_of at_byte
view_step (hearing got) line (Byte b) h k =
    view_judged (got ++ (b ∷ [])) line (check_of (got ++ (b ∷ []))) refl
    (let f = first_over got line b in let z = k.each 0 in omega arith)
    (simp length-append (omega arith))
view_step deaf line (Byte b) h k = view_deaf line
view_step l line CharacterGap h k = rw (gap_idle l) (view_idle line)
view_step l line MessageGap h k = rw (gap_idle l) (view_idle line)

line_short : (f : Framer) (line : List ℕ) → Short (line_of f line)
unfolding line_of begun_of
line_short f line = by f.deaf (ltb f.count packet_size) refl
  where
    by : (d c : Bool) → ltb f.count packet_size ≡ c → Short (pick d deaf (hearing (take (pick c f.count 0) line)))
    by true c e = tt
    by false true e = let m = ltb-true f.count packet_size e in simp length-take (omega arith)
    by false false e = omega arith

-- What control value and line buffer stand for afterwards is the next state.
pub view_after : (f : Framer) (line : List ℕ) (e : Event) → packet_size ≤ length line → Bytes (line_after f line e) →
    line_of (framed_of f line e).framer (line_after f line e) ≡ (framer_step (line_of f line) e).next
view_after f line e h k = rw (enough f line e h, stored f line e h) (view_step (line_of f line) line e (line_short f line) (rw (stored f line e h) at k))

-- The line buffer keeps its length.
length_stored : (l : Line) (line : List ℕ) (e : Event) → Short l → packet_size ≤ length line → length (stored_of e l line) ≡ length line
unfolding stored_of
length_stored (hearing got) line (Byte b) s h = length_over (got ++ (b ∷ [])) line (simp length-append (omega arith))
length_stored deaf line (Byte b) s h = refl
length_stored l line CharacterGap s h = refl
length_stored l line MessageGap s h = refl

pub length_after : (f : Framer) (line : List ℕ) (e : Event) → packet_size ≤ length line → length (line_after f line e) ≡ length line
length_after f line e h = rw (stored f line e h) (length_stored (line_of f line) line e (line_short f line) h)
