-- The laws of the sender's runs, over the definitions. Assumes nothing.
use Prim.Native.Nat.{ℕ, ◌+◌, ◌*◌, ◌/◌, ◌%◌, ◌≤◌, ◌<◌}
use mathlib.Core.Path.{◌≡◌, refl, sym, ap, ◌∙◌}
use mathlib.Core.Bool.{Bool, true, false}
use mathlib.Core.List.{List, [], ◌∷◌, ◌++◌, map}
use native.Mathlib.Omega.{arith}
use native.Mathlib.Decide.{ℕ_discrete}
use lib.Dec.{eqb, ltb}
use lib.ListN.{length, get_or, take, set, replicate, length-set}
use lib.Seq.{get_or-set_same, get_or-set_other}
use borrow.Author.Tests.{le-ltb, ltb-true}
use Rattle.words.specs.Lists.{pick, either, Each, none, one}
use Rattle.words.specs.Machine.{Done, after, through}
use Rattle.words.proofs.Lists.{never}
use Rattle.packet.specs.Opcodes.{reader, decode_data}
use Rattle.packet.specs.Packet.{body_of, marked}
use Rattle.packet.specs.declared.Refusal.TheVariants.{Start}
use Rattle.packet.specs.declared.Refusal.{Refusal}
use Rattle.packet.proofs.Theorems.{Body}
use Rattle.sender.specs.Pieces.{next_size, bodies_of, packets_of}
use Rattle.sender.specs.Sender.{SenderState, nothing_out, sending, gap_due, ignores, some, waits, Sent, copy, delivered, failed, refused, begins, start_step, fails, resends, out_step, sender_step}
use Rattle.sender.specs.Promises.{name_of}
use Rattle.sender.specs.declared.Heard.{Heard}
use Rattle.sender.specs.declared.Heard.TheVariants.{Ack, Nak, TimeOut, Nothing}
use Rattle.sender.specs.declared.Outcome.TheVariants as outcome
use Rattle.sender.proofs.Cutting.{Cut, last, more, pieces_are_cut, cut_some, bodies_more}
use Rattle.sender.proofs.Pieces.{final, packets_some}

-- A body with its resend mark is a body too, so marked copies are found in the same way.
pub marked_body : (b : List ℕ) → Body b → Body (marked b)
unfolding marked
marked_body b k =
    let x = get_or b 3 0 / 2 * 2 + 1 in
    let long : length (set b 3 x) ≡ length b = length-set b 3 x in
    let least = k.least in
    let most = k.most in
    record {
      long = get_or-set_other b 3 0 x 0 (λ e. omega arith) ∙ (k.long ∙ sym long);
      least = omega arith;
      most = omega arith;
      bytes = record { each = λ i. at i (ℕ_discrete i 3) };
    }
  where
    at : (i : ℕ) → Dec (i ≡ 3) → get_or (set b 3 (get_or b 3 0 / 2 * 2 + 1)) i 0 < 256
    at i (yes e) = let y = k.bytes.each 3 in let l = k.least in rw (e, get_or-set_same b 3 (get_or b 3 0 / 2 * 2 + 1) 0 (omega arith)) (omega arith)
    at i (no n) = rw (get_or-set_other b 3 i (get_or b 3 0 / 2 * 2 + 1) 0 n) (k.bytes.each i)

-- ---- starts

-- A start is accepted where no message is out and this one is not too long.
pub start_accepted : (s : SenderState) (code : ℕ) (m : List ℕ) → length m ≤ 4096 → waits s ≡ false → start_step s code m ≡ begins (packets_of code m) s
unfolding start_step
start_accepted s code m h e = simp (le-ltb 4096 (length m) h, e)

-- Else it is refused by number 11, and the state stays as it is.
pub start_refused : (s : SenderState) (code : ℕ) (m : List ℕ) → either (ltb 4096 (length m)) (waits s) ≡ true → start_step s code m ≡ record { next = s; told = refused Start ∷ [] }
unfolding start_step
start_refused s code m e = simp e

-- ---- a whole message

acks : (p : List ℕ) (ps : List (List ℕ)) (r c : ℕ) →
    through sender_step (sending (p ∷ ps) r c) (replicate (length (p ∷ ps)) Ack)
    ≡ record { next = nothing_out false (final (p ∷ ps)); told = map (copy false) ps ++ (delivered c ∷ []) }
unfolding through after sender_step out_step final
acks p [] r c = refl
acks p (q ∷ ps) r c = ap (after (copy false q ∷ [])) (acks q ps 0 c)

-- The first copies of these packets, of which the first one says whether a message gap is due.
abbrev pub first_copies : Bool → List (List ℕ) → List Sent
first_copies gap [] = []
first_copies gap (p ∷ ps) = copy gap p ∷ map (copy false) ps

-- Whether one is due before a message of these packets.
abbrev pub gap_before : SenderState → List (List ℕ) → Bool
gap_before s [] = false
gap_before s (p ∷ ps) = gap_due s p

begun_acks : (q : List (List ℕ)) (s : SenderState) → 1 ≤ length q →
    after (begins q s).told (through sender_step (begins q s).next (replicate (length q) Ack))
    ≡ record { next = nothing_out false (final q); told = first_copies (gap_before s q) q ++ (delivered 0 ∷ []) }
unfolding begins after
begun_acks [] s h = absurd (omega arith)
begun_acks (p ∷ ps) s h = ap (after (copy (gap_due s p) p ∷ [])) (acks p ps 0 0)

-- Whatever a start accepts can be sent to its end: as many ACKs as there are packets give every packet's copy in order, and then delivered with 0.
pub sent_whole : (s : SenderState) (code : ℕ) (m : List ℕ) → length m ≤ 4096 → waits s ≡ false →
    after (start_step s code m).told (through sender_step (start_step s code m).next (replicate (length (packets_of code m)) Ack))
    ≡ record { next = nothing_out false (final (packets_of code m)); told = first_copies (gap_before s (packets_of code m)) (packets_of code m) ++ (delivered 0 ∷ []) }
sent_whole s code m h e = rw (start_accepted s code m h e) (begun_acks (packets_of code m) s (packets_some code m))

-- ---- resends

-- What asks for the present packet again.
pub data Again : Heard → Type 0 where
  nak : Again (Nak 1)
  time : Again TimeOut

pub again_step : {h : Heard} (p : List ℕ) (ps : List (List ℕ)) (s : SenderState) → Again h → out_step (p ∷ ps) s h ≡ resends p s
unfolding out_step
again_step p ps s nak = refl
again_step p ps s time = refl

-- Each of the first two in a row gives a marked copy, the third fails.
pub third_fails : {h₁ h₂ h₃ : Heard} (p : List ℕ) (ps : List (List ℕ)) (c : ℕ) → Again h₁ → Again h₂ → Again h₃ →
    through sender_step (sending (p ∷ ps) 0 c) (h₁ ∷ h₂ ∷ h₃ ∷ [])
    ≡ record { next = nothing_out true []; told = copy false (marked p) ∷ copy false (marked p) ∷ failed (c + 1 + 1) ∷ [] }
unfolding through after sender_step resends fails
third_fails {h₁} {h₂} {h₃} p ps c a b d =
    simp (
      again_step p ps (sending (p ∷ ps) 0 c) a,
      again_step p ps (sending (p ∷ ps) 1 (c + 1)) b,
      again_step p ps (sending (p ∷ ps) 2 (c + 1 + 1)) d,
    )

fails_now : (d : Bool) (p : List ℕ) (s : SenderState) → 2 ≤ s.resends → pick d (resends p s) (fails s) ≡ fails s
unfolding resends
fails_now true p s h = simp (le-ltb s.resends 2 h)
fails_now false p s h = refl

twice_by : {h : Heard} {p : List ℕ} {q ps : List (List ℕ)} (s : SenderState) → q ≡ p ∷ ps → 2 ≤ s.resends → Again h → out_step q s h ≡ fails s
twice_by {p = p} {ps = ps} s e l a = rw e (again_step p ps s a ∙ fails_now true p s l)

-- So it is wherever the present packet was resent twice.
pub twice_then_fails : {h : Heard} {p : List ℕ} {ps : List (List ℕ)} (s : SenderState) → s.queue ≡ p ∷ ps → 2 ≤ s.resends → Again h → sender_step s h ≡ fails s
unfolding sender_step
twice_then_fails s e l a = twice_by s e l a

kept_by : (p : List ℕ) (ps : List (List ℕ)) (s : SenderState) (d : Done SenderState Sent) → d ≡ fails s → d.next.queue ≡ p ∷ ps → d.told ≡ []
unfolding fails
kept_by p ps s d f e = let q = ap (λ (x : Done SenderState Sent). x.next.queue) f in never (cc)

no_third_by : (q : List (List ℕ)) (s : SenderState) (h : Heard) → 2 ≤ s.resends → (out_step q s h).next.queue ≡ q → (out_step q s h).told ≡ []
unfolding out_step
no_third_by [] s h l e = refl
no_third_by (p ∷ []) s Ack l e = never (cc)
no_third_by (p ∷ q ∷ ps) s Ack l e = absurd (let n = ap length e in omega arith)
no_third_by (p ∷ ps) s (Nak cause) l e = kept_by p ps s (pick (eqb cause 1) (resends p s) (fails s)) (fails_now (eqb cause 1) p s l) e
no_third_by (p ∷ ps) s TimeOut l e = kept_by p ps s (resends p s) (fails_now true p s l) e
no_third_by (p ∷ ps) s Nothing l e = refl

-- After two, no step gives a copy of the same packet: a step that keeps the packets still to be acknowledged tells nothing.
pub no_third : (s : SenderState) (h : Heard) → 2 ≤ s.resends → (sender_step s h).next.queue ≡ s.queue → (sender_step s h).told ≡ []
unfolding sender_step
no_third s h l e = no_third_by s.queue s h l e

two_at_most : (d : Bool) (p : List ℕ) (s : SenderState) → ltb s.resends 2 ≡ d → (resends p s).next.resends ≤ 2
unfolding resends fails
two_at_most true p s e = let l = ltb-true s.resends 2 e in simp e (omega arith)
two_at_most false p s e = simp e (omega arith)

tries_by : (q : List (List ℕ)) (s : SenderState) (h : Heard) → s.resends ≤ 2 → (out_step q s h).next.resends ≤ 2
unfolding out_step fails
tries_by [] s h l = l
tries_by (p ∷ []) s Ack l = omega arith
tries_by (p ∷ q ∷ ps) s Ack l = omega arith
tries_by (p ∷ ps) s (Nak cause) l = by (eqb cause 1)
  where
    by : (d : Bool) → (pick d (resends p s) (fails s)).next.resends ≤ 2
    by true = two_at_most (ltb s.resends 2) p s refl
    by false = omega arith
tries_by (p ∷ ps) s TimeOut l = two_at_most (ltb s.resends 2) p s refl
tries_by (p ∷ ps) s Nothing l = l

-- No step counts more than two resends of a packet.
pub tries_kept : (s : SenderState) (h : Heard) → s.resends ≤ 2 → (sender_step s h).next.resends ≤ 2
unfolding sender_step
tries_kept s h l = tries_by s.queue s h l

-- ---- nothing out

rests_by : (q : List (List ℕ)) (s : SenderState) (h : Heard) → some q ≡ false → out_step q s h ≡ ignores s
unfolding out_step some
rests_by [] s h e = refl
rests_by (p ∷ ps) s h e = never (cc)

-- With nothing out, everything heard does nothing.
pub rests : (s : SenderState) (h : Heard) → waits s ≡ false → sender_step s h ≡ ignores s
unfolding sender_step
rests s h e = rests_by s.queue s h e

-- And so does all that is heard one after the other.
pub rests_long : (s : SenderState) (hs : List Heard) → waits s ≡ false → through sender_step s hs ≡ record { next = s; told = [] }
unfolding through after
rests_long s [] e = refl
rests_long s (h ∷ hs) e = rw (rests s h e) (rw (rests_long s hs e) refl)

-- ---- the number that comes with the end

-- A packet without its resend mark.
pub record Plain (b : List ℕ) : Type 0 where
  pub long : 4 ≤ length b
  pub even : get_or b 3 0 % 2 ≡ 0

-- From c marked copies on, all that is told: each marked copy counts one, and the end comes with the count.
pub data Counts : ℕ → List Sent → Type 0 where
  still : {c : ℕ} → Counts c []
  plain : {c : ℕ} {g : Bool} {b : List ℕ} {xs : List Sent} → get_or b 3 0 % 2 ≡ 0 → Counts c xs → Counts c (copy g b ∷ xs)
  mark : {c : ℕ} {g : Bool} {b : List ℕ} {xs : List Sent} → get_or b 3 0 % 2 ≡ 1 → Counts (c + 1) xs → Counts c (copy g b ∷ xs)
  whole : {c : ℕ} → Counts c (delivered c ∷ [])
  broken : {c : ℕ} → Counts c (failed c ∷ [])

plain_body : (t : ℕ) (d : List ℕ) → t % 2 ≡ 0 → Plain (body_of decode_data reader t d)
unfolding body_of
plain_body t d e = record { long = omega arith; even = e }

cut_plain : {b m : List ℕ} {ps : List (List ℕ)} (code : ℕ) → Cut b m ps → Each Plain (bodies_of code ps)
unfolding bodies_of
cut_plain code (last {m = m} h) = one (plain_body 0 (code ∷ m) refl) none
cut_plain code (more {b} {m} {ps} h c) =
    rw (bodies_more code (take (next_size b m) m) ps (cut_some c)) (one (plain_body 2 (code ∷ take (next_size b m) m) refl) (cut_plain code c))

-- The packets of a message have no mark.
pub packets_plain : (code : ℕ) (m : List ℕ) → Each Plain (packets_of code m)
unfolding packets_of
packets_plain code m = cut_plain code (pieces_are_cut m)

marked_odd : (b : List ℕ) → Plain b → get_or (marked b) 3 0 % 2 ≡ 1
unfolding marked
marked_odd b k = let l = k.long in rw (get_or-set_same b 3 (get_or b 3 0 / 2 * 2 + 1) 0 (omega arith)) (omega arith)

-- Behind the end nothing more is told.
fails_counts : (s : SenderState) (hs : List Heard) → Counts s.copies (after (fails s).told (through sender_step (fails s).next hs)).told
unfolding fails after some
fails_counts s hs = rw (rests_long (nothing_out true []) hs refl) broken

module _ (p : List ℕ) (ps : List (List ℕ)) (r c : ℕ) (f : Bool) (l : List ℕ) (hs : List Heard) (k : Plain p)
    (on : Counts (c + 1) (through sender_step (sending (p ∷ ps) (r + 1) (c + 1)) hs).told) where
  present : SenderState
  present = record { queue = p ∷ ps; resends = r; copies = c; failed = f; last = l }

  resend_counts : (d : Bool) → ltb r 2 ≡ d → Counts c (after (resends p present).told (through sender_step (resends p present).next hs)).told
  unfolding resends present after
  resend_counts true e = simp e (mark (marked_odd p k) on)
  resend_counts false e = simp e (fails_counts present hs)

  nak_counts : (d : Bool) → Counts c (after (pick d (resends p present) (fails present)).told (through sender_step (pick d (resends p present) (fails present)).next hs)).told
  unfolding present
  nak_counts true = resend_counts (ltb r 2) refl
  nak_counts false = fails_counts present hs

counts_by : (q : List (List ℕ)) (r c : ℕ) (f : Bool) (l : List ℕ) (hs : List Heard) → Each Plain q →
    Counts c (through sender_step (record { queue = q; resends = r; copies = c; failed = f; last = l }) hs).told
unfolding through after sender_step out_step present some
counts_by q r c f l [] k = still
counts_by [] r c f l (h ∷ hs) k = counts_by [] r c f l hs k
counts_by (p ∷ []) r c f l (Ack ∷ hs) k = rw (rests_long (nothing_out false p) hs refl) whole
counts_by (p ∷ q ∷ ps) r c f l (Ack ∷ hs) (one h (one i k)) = plain i.even (counts_by (q ∷ ps) 0 c false [] hs (one i k))
counts_by (p ∷ ps) r c f l (Nak cause ∷ hs) (one h k) = nak_counts p ps r c f l hs h (counts_by (p ∷ ps) (r + 1) (c + 1) false [] hs (one h k)) (eqb cause 1)
counts_by (p ∷ ps) r c f l (TimeOut ∷ hs) (one h k) = resend_counts p ps r c f l hs h (counts_by (p ∷ ps) (r + 1) (c + 1) false [] hs (one h k)) (ltb r 2) refl
counts_by (p ∷ ps) r c f l (Nothing ∷ hs) k = counts_by (p ∷ ps) r c f l hs k

-- Delivered and failed come with the number of marked copies told before them, whatever is heard.
pub marks_counted : (s : SenderState) (hs : List Heard) → Each Plain s.queue → Counts s.copies (through sender_step s hs).told
marks_counted s hs k = counts_by s.queue s.resends s.copies s.failed s.last hs k

begun_counts : (q : List (List ℕ)) (s : SenderState) (hs : List Heard) → 1 ≤ length q → Each Plain q → Counts 0 (after (begins q s).told (through sender_step (begins q s).next hs)).told
unfolding begins after
begun_counts [] s hs h k = absurd (omega arith)
begun_counts (p ∷ ps) s hs h (one l k) = plain l.even (marks_counted (sending (p ∷ ps) 0 0) hs (one l k))

-- So with a message's start the count begins at 0, and ends with the number of its marked copies.
pub started_counts : (s : SenderState) (code : ℕ) (m : List ℕ) (hs : List Heard) → length m ≤ 4096 → waits s ≡ false →
    Counts 0 (after (start_step s code m).told (through sender_step (start_step s code m).next hs)).told
started_counts s code m hs h e = rw (start_accepted s code m h e) (begun_counts (packets_of code m) s hs (packets_some code m) (packets_plain code m))

-- ---- refusals

-- What is begun is not refused, and nothing that is heard is.
pub begun_unrefused : (q : List (List ℕ)) (s : SenderState) {x : Refusal} → name_of (begins q s).told ≡ outcome.Refused x → ⊥
unfolding begins name_of
begun_unrefused [] s e = never (cc)
begun_unrefused (p ∷ ps) s e = never (cc)

resends_unrefused : (p : List ℕ) (s : SenderState) {x : Refusal} (b again : Bool) → ltb s.resends 2 ≡ b →
    name_of (pick again (resends p s) (fails s)).told ≡ outcome.Refused x → ⊥
unfolding resends fails name_of
resends_unrefused p s b false f e = never (cc)
resends_unrefused p s true true f e = let k = simp f at e in never (cc)
resends_unrefused p s false true f e = let k = simp f at e in never (cc)

unrefused_by : (q : List (List ℕ)) (s : SenderState) (h : Heard) {x : Refusal} → name_of (out_step q s h).told ≡ outcome.Refused x → ⊥
unfolding out_step name_of
unrefused_by [] s h e = never (cc)
unrefused_by (p ∷ []) s Ack e = never (cc)
unrefused_by (p ∷ q ∷ ps) s Ack e = never (cc)
unrefused_by (p ∷ ps) s (Nak cause) e = resends_unrefused p s (ltb s.resends 2) (eqb cause 1) refl e
unrefused_by (p ∷ ps) s TimeOut e = resends_unrefused p s (ltb s.resends 2) true refl e
unrefused_by (p ∷ ps) s Nothing e = never (cc)

pub heard_unrefused : (s : SenderState) (h : Heard) {x : Refusal} → name_of (sender_step s h).told ≡ outcome.Refused x → ⊥
unfolding sender_step
heard_unrefused s h e = unrefused_by s.queue s h e

-- ---- the gap

resends_gapless : (p : List ℕ) (s : SenderState) {size : ℕ} {gap : Bool} (b again : Bool) → ltb s.resends 2 ≡ b →
    name_of (pick again (resends p s) (fails s)).told ≡ outcome.Copy size gap → gap ≡ false
unfolding resends fails name_of
resends_gapless p s b false f e = never (cc)
resends_gapless p s true true f e = let k = simp f at e in cc
resends_gapless p s false true f e = let k = simp f at e in never (cc)

gapless_by : (q : List (List ℕ)) (s : SenderState) (h : Heard) {size : ℕ} {gap : Bool} → name_of (out_step q s h).told ≡ outcome.Copy size gap → gap ≡ false
unfolding out_step name_of
gapless_by [] s h e = never (cc)
gapless_by (p ∷ []) s Ack e = never (cc)
gapless_by (p ∷ q ∷ ps) s Ack e = cc
gapless_by (p ∷ ps) s (Nak cause) e = resends_gapless p s (ltb s.resends 2) (eqb cause 1) refl e
gapless_by (p ∷ ps) s TimeOut e = resends_gapless p s (ltb s.resends 2) true refl e
gapless_by (p ∷ ps) s Nothing e = never (cc)

-- Only a start tells of a gap: a copy that follows an answer or a time-out has none due before it.
pub heard_gapless : (s : SenderState) (h : Heard) {size : ℕ} {gap : Bool} → name_of (sender_step s h).told ≡ outcome.Copy size gap → gap ≡ false
unfolding sender_step
heard_gapless s h e = gapless_by s.queue s h e
