-- What a framer with nothing begun makes of a copy or an answer, by what became of its bytes on the line: the packet; or, where the bytes
-- were lost or spoiled, nothing or one refusal below 4. The gap leaves nothing begun in every case. Assumes nothing.
use Prim.Native.Nat.{ℕ}
use mathlib.Core.Path.{◌≡◌, refl, sym, ap, ◌∙◌}
use mathlib.Core.Bool.{Bool, true, false}
use mathlib.Core.List.{List, [], ◌∷◌, ◌++◌, map, append_assoc}
use lib.Dec.{eqb}
use Rattle.words.specs.Lists.{pick}
use Rattle.words.specs.Machine.{Done, after, through}
use Rattle.words.proofs.Machine.{through_append, through_one}
use Rattle.words.proofs.Lists.{never}
use Rattle.packet.specs.Packet.{seal, check_of}
use Rattle.packet.specs.Refusals.{number_of, cause_of}
use Rattle.packet.specs.declared.Refusal.{Refusal}
use Rattle.packet.specs.declared.Head.{Head}
use Rattle.std.proofs.Common.{Result, Ok, Err}
use Rattle.packet.proofs.Theorems.{Body, check_front, turned}
use Rattle.framer.specs.Framer.{Line, hearing, deaf, Heard, packet, refused, quiet, says, judged, at_gap, at_byte, framer_step}
use Rattle.framer.specs.declared.Event.TheVariants.{Byte, CharacterGap}
use Rattle.framer.proofs.Theorems.{gap_idle}
use Rattle.hub.proofs.Calm.{ends, gap}
use Rattle.bench.specs.Whole.{copy_then}
use Rattle.bench.specs.Bench.{Fate, whole, lost, spoiled, gap_after, arrives, left, packets_in, accepted, Fair, fair_whole, fair_lost, fair_spoiled}
use Rattle.bench.specs.Delivery.{arrived, NoPart}
use Rattle.bench.proofs.Whole.{copy_found}

-- ---- bytes in which no packet is accepted

-- What a framer tells of them and the gap behind them: at most one refusal, and that is answered by cause 1.
pub data Unheard : List Heard → Type 0 where
  silence : Unheard []
  noise : {r : Refusal} → cause_of r ≡ 1 → Unheard (refused r ∷ [])

-- The gap leaves nothing begun.
pub gap_after_idle : (l : Line) (bytes : List ℕ) → (through framer_step l (gap_after bytes)).next ≡ hearing []
unfolding gap_after after
gap_after_idle l bytes =
    let m = (through framer_step l (map Byte bytes)).next in
    rw (through_append framer_step l (map Byte bytes) (CharacterGap ∷ []), through_one framer_step m CharacterGap) (gap_idle m)

-- A framer that is deaf tells nothing.
deaf_after : (bytes : List ℕ) → (through framer_step deaf (gap_after bytes)).told ≡ []
unfolding gap_after through after framer_step at_byte at_gap
deaf_after [] = refl
deaf_after (x ∷ xs) = deaf_after xs

-- The run from a line, of these bytes and the gap behind them.
abbrev heard_from : Line → List ℕ → List Heard
heard_from l bytes = (through framer_step l (gap_after bytes)).told

-- Behind a byte that the check has judged: too few go on, refused is deaf.
abbrev heard_behind : Done Line Heard → List ℕ → List Heard
heard_behind d bytes = d.told ++ heard_from d.next bytes

-- A refusal of the check, which is number 3 or not.
abbrev refused_at : List ℕ → Refusal → Bool → Done Line Heard
refused_at s r d = pick d (quiet (hearing s)) (says deaf (refused r))

heard_byte : (got bytes : List ℕ) (x : ℕ) → heard_from (hearing got) (x ∷ bytes) ≡ heard_behind (judged (got ++ (x ∷ [])) (check_of (got ++ (x ∷ [])))) bytes
unfolding gap_after through after framer_step at_byte
heard_byte got bytes x = refl

gap_unheard : (got : List ℕ) → Unheard (heard_from (hearing got) [])
unfolding gap_after through after framer_step at_gap
gap_unheard [] = silence
gap_unheard (x ∷ xs) = noise refl

module _ (s bytes : List ℕ) (on : packets_in (heard_from (hearing s) bytes) ≡ [] → Unheard (heard_from (hearing s) bytes)) where
  refused_unheard : (r : Refusal) (d : Bool) → cause_of r ≡ 1 → packets_in (heard_behind (refused_at s r d) bytes) ≡ [] → Unheard (heard_behind (refused_at s r d) bytes)
  refused_unheard r true c e = on e
  refused_unheard r false c e = rw (deaf_after bytes) (noise c)

  judged_unheard : (c : Result Head Refusal) → check_of s ≡ c → packets_in (heard_behind (judged s c) bytes) ≡ [] → Unheard (heard_behind (judged s c) bytes)
  unfolding judged packets_in
  judged_unheard (Ok head) f e = never (cc)
  judged_unheard (Err r) f e = refused_unheard r (eqb (number_of r) 3) (turned s f).cause e

unheard_from : (got bytes : List ℕ) → packets_in (heard_from (hearing got) bytes) ≡ [] → Unheard (heard_from (hearing got) bytes)
unheard_from got [] e = gap_unheard got
unheard_from got (x ∷ xs) e =
    let s : List ℕ = got ++ (x ∷ []) in
    rw (heard_byte got xs x) (judged_unheard s xs (λ q. unheard_from s xs q) (check_of s) refl (rw (heard_byte got xs x) at e))

-- ---- no part passes the check

gap_none : (got : List ℕ) → packets_in (heard_from (hearing got) []) ≡ []
unfolding gap_after through after framer_step at_gap packets_in
gap_none [] = refl
gap_none (x ∷ xs) = refl

module _ (s bytes : List ℕ) (on : packets_in (heard_from (hearing s) bytes) ≡ []) where
  refused_none : (r : Refusal) (d : Bool) → packets_in (heard_behind (refused_at s r d) bytes) ≡ []
  unfolding packets_in
  refused_none r true = on
  refused_none r false = rw (deaf_after bytes) refl

  judged_none : (c : Result Head Refusal) → check_of s ≡ c → ((h : Head) → check_of (s ++ bytes) ≡ Ok h → ⊥) → packets_in (heard_behind (judged s c) bytes) ≡ []
  unfolding judged
  judged_none (Ok h) f n = absurd (n h (check_front s bytes (λ e. never (cc)) ∙ f))
  judged_none (Err r) f n = refused_none r (eqb (number_of r) 3)

none_from : (got bytes : List ℕ) → ((h : Head) → check_of (got ++ bytes) ≡ Ok h → ⊥) → packets_in (heard_from (hearing got) bytes) ≡ []
none_from got [] n = gap_none got
none_from got (x ∷ xs) n =
    let s : List ℕ = got ++ (x ∷ []) in
    let m : (h : Head) → check_of (s ++ xs) ≡ Ok h → ⊥ = λ h e. n h (ap check_of (sym (append_assoc got (x ∷ []) xs)) ∙ e) in
    rw (heard_byte got xs x) (judged_none s xs (none_from s xs m) (check_of s) refl m)

-- Where the bytes do not pass the check from their first on, no packet is accepted in them: a framer begins anew only behind a packet or a gap.
pub none_accepted : (bytes : List ℕ) → ((h : Head) → check_of bytes ≡ Ok h → ⊥) → accepted bytes ≡ []
unfolding accepted
none_accepted bytes n = none_from [] bytes n

-- So bytes of which no part passes the check are fair.
pub no_part_accepted : {bytes : List ℕ} → NoPart bytes → accepted bytes ≡ []
no_part_accepted {bytes} k = none_accepted bytes (k.none 0)

pub no_part_fair : {bytes : List ℕ} → NoPart bytes → Fair (spoiled bytes)
no_part_fair k = fair_spoiled (no_part_accepted k)

-- ---- a body's bytes, by their fate

pub data Comes (body : List ℕ) : Fate → List Heard → Type 0 where
  came : Comes body whole (packet body ∷ [])
  stayed : {f : Fate} {hs : List Heard} → arrived f ≡ false → Unheard hs → Comes body f hs

pub record Arrival (body : List ℕ) (f : Fate) : Type 0 where
  pub heard : List Heard
  pub comes : Comes body f heard
  pub is : through framer_step (hearing []) (arrives f (seal body)) ≡ record { next = hearing []; told = heard }

abbrev run_of : Fate → List ℕ → Done Line Heard
run_of f body = through framer_step (hearing []) (arrives f (seal body))

bad_arrival : (body : List ℕ) (f : Fate) → arrived f ≡ false → accepted (left f (seal body)) ≡ [] → Arrival body f
unfolding arrives accepted
bad_arrival body f e a =
    record {
      heard = (run_of f body).told;
      comes = stayed e (unheard_from [] (left f (seal body)) a);
      is = ap (λ (l : Line). record { next = l; told = (run_of f body).told }) (gap_after_idle (hearing []) (left f (seal body)));
    }

pub arrival : {f : Fate} (body : List ℕ) → Body body → Fair f → Arrival body f
unfolding arrives left gap_after copy_then arrived accepted packets_in through after framer_step at_gap
arrival body k fair_whole = record { heard = packet body ∷ []; comes = came; is = copy_found (CharacterGap ∷ []) (gap ends) refl body k }
arrival body k fair_lost = bad_arrival body lost refl refl
arrival body k (fair_spoiled {bytes} e) = bad_arrival body (spoiled bytes) refl e
