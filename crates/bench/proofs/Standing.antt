-- How a bench stands between two moves. At rest: nothing is out, and a gap is due or the hub has gathered nothing and accepted last what
-- the line carried last, which is the sender's last packet or none. At work: a packet is out, all its tries so far were bad, and the hub has it not
-- yet, or has it already. Assumes nothing.
use Prim.Native.Nat.{ℕ, ◌%◌, ◌*◌, ◌-◌, ◌≤◌, zero, suc, ◌+◌}
use mathlib.Core.Path.{◌≡◌, refl, ap, ◌∙◌}
use mathlib.Core.Bool.{Bool, true, false}
use mathlib.Core.List.{List, [], ◌∷◌, ◌++◌}
use native.Mathlib.Omega.{arith}
use lib.Dec.{eqb}
use lib.ListN.{length, get_or, replicate}
use borrow.Author.Tests.{eq-eqb}
use Rattle.words.specs.Lists.{pick, either, same_bytes, Each, none}
use Rattle.words.specs.Machine.{through}
use Rattle.words.proofs.Lists.{same_refl, same_equal, never}
use Rattle.packet.specs.Opcodes.{host}
use Rattle.packet.specs.Packet.{seal, reply_body, marked}
use Rattle.packet.specs.declared.Reply.TheVariants.{Ack}
use Rattle.hub.specs.Joiner.{Gathered, Joiner}
use Rattle.hub.specs.Joiner as joiner
use Rattle.framer.specs.Framer.{at_gap, framer_step}
use Rattle.framer.specs.Behind.{framed}
use Rattle.hub.specs.Hub.{packet_step, cleared, hub_step}
use Rattle.hub.proofs.Theorems.{idle}
use Rattle.sender.specs.Sender.{SenderState}
use Rattle.sender.specs.Pieces.{packets_of}
use Rattle.reader.specs.Reader.{ReaderState}
use Rattle.bench.specs.Bench.{Try, Tried, Ending, delivered, out, Begun, Message, Sheet, Bench, handing, hub_answers, gap_first}
use Rattle.bench.specs.Delivery.{OnLine, sent, gap, gap_of, on_line, apart, message_of, HandsOut, handed, passed_over, Thrice, Bad, Honest, in_order, Sends}
use Rattle.bench.proofs.Carrying.{free, Copy, first, another, New, Sendable, Carries, Onward, goes_on_lem, came_out, next}
use Rattle.bench.proofs.Hearing.{busy}
use Rattle.bench.proofs.Rounds.{bench_of}

-- ---- the packet before

-- The latest packet on the line since the last message gap; no bytes where there is none.
unfoldable pub last_on : List OnLine → List ℕ
last_on [] = []
last_on (gap ∷ xs) = []
last_on (sent p ∷ xs) = p

other_way : (p q : List ℕ) (d : Bool) → same_bytes q p ≡ d → same_bytes p q ≡ false → same_bytes q p ≡ false
other_way p q true e f = never (let s = same_equal q p e in let r = same_refl p in let z : same_bytes p q ≡ true = rw s r in cc)
other_way p q false e f = e

none_same : (p : List ℕ) → 1 ≤ length p → same_bytes [] p ≡ false
unfolding same_bytes
none_same [] h = absurd (omega arith)
none_same (x ∷ xs) h = refl

-- A packet that is not the latest one on the line may follow it.
pub apart_more : (p : List ℕ) (line : List OnLine) → New (last_on line) p → apart line ≡ true → apart (sent p ∷ line) ≡ true
unfolding apart last_on
apart_more p [] n e = refl
apart_more p (gap ∷ xs) n e = e
apart_more p (sent q ∷ xs) n e = rw (other_way q p (same_bytes p q) refl n) e

-- What the hub accepted last, since the last message gap: nothing, or the last packet that the sender knows of.
pub data Known (last : List ℕ) : List ℕ → Type 0 where
  no_packet : Known last []
  its_last : Known last last

-- So a packet that is not the sender's last is new to the hub.
known_new : {last l : List ℕ} (p : List ℕ) → 1 ≤ length p → Known last l → same_bytes last p ≡ false → New l p
known_new p h no_packet e = none_same p h
known_new p h its_last e = e

-- ---- at rest

-- What the demand says of the log and of the messages handed out.
pub record Past (log : List Begun) (ms : List Message) : Type 0 where
  pub hands_out_lem : HandsOut log ms
  pub honest : Each Honest log
  pub sends : Each Sends log
  pub apart_line : apart (on_line log) ≡ true

-- The hub between messages, by whether the last one failed, and by the last packet that the sender keeps.
pub data Rested (log : List Begun) (last : List ℕ) : Bool → Joiner → Type 0 where
  gap_due_lem : {j : Joiner} → Rested log last true j
  ready : Known last (last_on (on_line log)) → Rested log last false (free (last_on (on_line log)) joiner.none)

-- Behind the gap that a start with this first packet tells, if it tells one, the hub has gathered nothing, accepted last what the line carried last,
-- and the packet is new to it.
pub gap_first_lem : {log : List Begun} {last : List ℕ} {f : Bool} {j : Joiner} (p : List ℕ) (g : Bool) → Rested log last f j → either f (same_bytes last p) ≡ g →
    gap_first g (idle j) ≡ record { next = idle (free (last_on (gap_of g ++ on_line log)) joiner.none); told = [] }
unfolding gap_first gap_of last_on hub_step cleared framed framer_step at_gap through
gap_first_lem p true k e = refl
gap_first_lem p false gap_due_lem e = never (cc)
gap_first_lem p false (ready n) e = refl

pub gap_new : {log : List Begun} {last : List ℕ} {f : Bool} {j : Joiner} (p : List ℕ) (g : Bool) → 1 ≤ length p → Rested log last f j → either f (same_bytes last p) ≡ g →
    New (last_on (gap_of g ++ on_line log)) p
unfolding gap_of last_on
gap_new p true h k e = none_same p h
gap_new p false h gap_due_lem e = never (cc)
gap_new p false h (ready n) e = known_new p h n e

pub gap_apart : (g : Bool) (log : List Begun) → apart (on_line log) ≡ true → apart (gap_of g ++ on_line log) ≡ true
unfolding gap_of apart
gap_apart true log e = e
gap_apart false log e = e

-- ---- at work

-- A packet with so many marked copies, and a message whose latest packet this is.
abbrev pub packet_of : List ℕ → ℕ → List Try → Tried
packet_of p n ts = record { body = p; copies = replicate n (seal (marked p)) ++ (seal p ∷ []); tries = ts }

abbrev pub present : ℕ → List ℕ → Bool → Ending → List ℕ → ℕ → List Try → List Tried → Begun
present code bytes g x p n ts older = record { code = code; bytes = bytes; gap = g; ending = x; packets = packet_of p n ts ∷ older }

copies_number : (p : List ℕ) (n : ℕ) → length (packet_of p n []).copies ≡ suc n
copies_number p zero = refl
copies_number p (suc n) = ap suc (copies_number p n)

-- With at most two of these it was sent at most three times.
pub at_most_thrice : {waiting n : ℕ} {p : List ℕ} (ts : List Try) → n ≤ 2 → suc n ≡ waiting + length ts → Thrice waiting (packet_of p n ts)
at_most_thrice {n = n} {p} ts h e = record { again = n; few = h; copies_are = refl; tried = copies_number p n ∙ e }

-- The copy on the line: the first one has no mark.
abbrev pub copy_of : List Try → List ℕ → List ℕ
copy_of [] p = p
copy_of (t ∷ ts) p = marked p

-- Of the message that is out: its packet on the line and those behind it, the tries of this one, the packets before it, and the log before it.
pub record Out (code : ℕ) (bytes p : List ℕ) (ps : List (List ℕ)) (ts : List Try) (older : List Tried) (log : List Begun) : Type 0 where
  pub sendable : Sendable p
  pub few : length ts ≤ 2
  pub bad : Each Bad ts
  pub thrice : Each (Thrice 0) older
  pub order : in_order older (p ∷ ps) ≡ packets_of code bytes
  pub honest : Each Honest log
  pub sends : Each Sends log

-- At the first copy of a packet nothing was tried.
pub first_copy : {code : ℕ} {bytes q : List ℕ} {qs : List (List ℕ)} {older : List Tried} {log : List Begun} → Sendable q → Each (Thrice 0) older →
    in_order older (q ∷ qs) ≡ packets_of code bytes → Each Honest log → Each Sends log → Out code bytes q qs [] older log
first_copy s t o h l = record { sendable = s; few = omega arith; bad = none; thrice = t; order = o; honest = h; sends = l }

-- It is noted as a packet's first, having no mark.
pub noted_first : {q : List ℕ} (f g : Begun → Begun) → Sendable q → pick (eqb (get_or q 3 0 % 2) 0) f g ≡ f
noted_first {q} f g s = simp (eq-eqb (get_or q 3 0 % 2) 0 s.even)

-- The hub has the packet not yet, or it has it already, and then all copies to come are marked. With the messages handed out before this one
-- and those handed out by now.
pub data Has (code : ℕ) (bytes p : List ℕ) (ps : List (List ℕ)) (xs : List Message) : List Try → Joiner → List Message → Type 0 where
  not_yet : {ts : List Try} {l : List ℕ} {g : Gathered} → New l p → Carries code bytes g (p ∷ ps) → Has code bytes p ps xs ts (free l g) xs
  already : {t : Try} {ts : List Try} {g : Gathered} {ms : List Message} → Onward code bytes p g ps xs ms → Has code bytes p ps xs (t ∷ ts) (free p g) ms

-- One more try changes nothing of that.
pub later : {code : ℕ} {bytes p : List ℕ} {ps : List (List ℕ)} {xs ms : List Message} {ts : List Try} {j : Joiner} (t : Try) →
    Has code bytes p ps xs ts j ms → Has code bytes p ps xs (t ∷ ts) j ms
later t (not_yet n k) = not_yet n k
later t (already k) = already k

-- A message that is not called delivered may be handed out all the same: where the hub has its last packet, and only the answers were bad.
pub not_ended : {code : ℕ} {bytes p : List ℕ} {ps : List (List ℕ)} {ts : List Try} {log : List Begun} {xs ms : List Message} {j : Joiner} (m : Begun) →
    (m.ending ≡ delivered → ⊥) → record { code = code; bytes = bytes } ≡ message_of m → HandsOut log xs → Has code bytes p ps xs ts j ms → HandsOut (m ∷ log) ms
not_ended m d e h (not_yet n k) = passed_over d h
not_ended m d e h (already (goes_on_lem n k)) = passed_over d h
not_ended m d e h (already came_out) = handed e h

-- What the hub makes of the copy on the line: it acknowledges it, and has the packet then.
pub record Takes (code : ℕ) (bytes p : List ℕ) (ps : List (List ℕ)) (xs : List Message) (ts : List Try) (j : Joiner) (ms : List Message) : Type 0 where
  pub told : joiner.Output
  pub acked : hub_answers (joiner.acknowledged told) ≡ seal (reply_body host Ack) ∷ []
  pub gathered : Gathered
  pub step : packet_step j (copy_of ts p) ≡ record { next = free p gathered; told = joiner.acknowledged told }
  pub onward : Onward code bytes p gathered ps xs (handing (joiner.acknowledged told) ms)

a_copy : (ts : List Try) (p : List ℕ) → Copy p (copy_of ts p)
a_copy [] p = first
a_copy (t ∷ ts) p = another

pub takes : {code : ℕ} {bytes p : List ℕ} {ps : List (List ℕ)} {xs ms : List Message} {ts : List Try} {j : Joiner} → Sendable p →
    Has code bytes p ps xs ts j ms → Takes code bytes p ps xs ts j ms
unfolding hub_answers handing
takes {p = p} {xs = xs} s (not_yet {ts} {l} {g} n k) =
    let q = next k in
    record { told = q.told; acked = q.acked; gathered = q.gathered; step = q.moves l (copy_of ts p) (a_copy ts p) n; onward = q.onward xs }
takes s (already {g = g} k) = record { told = joiner.repeated; acked = refl; gathered = g; step = s.repeats g; onward = k }

-- ---- a bench

-- A message that is out, with its latest packet on the line: no two neighbours on the line are equal.
abbrev pub ApartWith : ℕ → List ℕ → Bool → List ℕ → List Tried → List Begun → Type 0
ApartWith code bytes g p older log = apart (on_line (present code bytes g out p 0 [] older ∷ log)) ≡ true

pub data Stands : Joiner → SenderState → Sheet → List Message → Type 0 where
  at_rest : {j : Joiner} {s : SenderState} {log : List Begun} {ms : List Message} {f : Bool} → s.queue ≡ [] → s.failed ≡ f → Past log ms → Rested log s.last f j →
      Stands j s (record { copy = []; log = log }) ms
  at_work : {code : ℕ} {bytes p : List ℕ} {ps : List (List ℕ)} {ts : List Try} {older : List Tried} {log : List Begun} {g : Bool} {k : ℕ} {j : Joiner}
      {xs ms : List Message} → Out code bytes p ps ts older log → HandsOut log xs → Has code bytes p ps xs ts j ms → ApartWith code bytes g p older log →
      Stands j (busy p ps (length ts) k) (record { copy = copy_of ts p; log = present code bytes g out p (length ts) ts older ∷ log }) ms

-- A bench stands, with nothing begun on its lines and no stray bytes.
pub record Standing (r : ReaderState) (b : Bench) : Type 0 where
  pub joiner_is : Joiner
  pub sender_is : SenderState
  pub sheet_is : Sheet
  pub handed_is : List Message
  pub is : b ≡ bench_of r joiner_is sender_is sheet_is handed_is
  pub stands : Stands joiner_is sender_is sheet_is handed_is

pub standing : {r : ReaderState} {j : Joiner} {s : SenderState} {sheet : Sheet} {ms : List Message} → Stands j s sheet ms → Standing r (bench_of r j s sheet ms)
standing {j = j} {s} {sheet} {ms} k = record { joiner_is = j; sender_is = s; sheet_is = sheet; handed_is = ms; is = refl; stands = k }

-- ---- the course of one message

-- How many tries it can still have: three for each packet behind the present one, and what is left of three for this.
abbrev pub to_come : List (List ℕ) → List Try → ℕ
to_come ps ts = length ps * 3 + (3 - length ts)

-- What became of it: it ended, and where it was delivered it is what was handed out last.
pub record Finished (code : ℕ) (bytes : List ℕ) (xs ms : List Message) (m : Begun) : Type 0 where
  pub its : message_of m ≡ record { code = code; bytes = bytes }
  pub over : m.ending ≡ out → ⊥
  pub whole : m.ending ≡ delivered → ms ≡ record { code = code; bytes = bytes } ∷ xs

-- Behind this log and these messages: it is out, with so many tries to come at most, or it has ended.
pub data Course (code : ℕ) (bytes : List ℕ) (log : List Begun) (xs : List Message) (r : ReaderState) (n : ℕ) : Bench → Type 0 where
  still_out : {p : List ℕ} {ps : List (List ℕ)} {ts : List Try} {older : List Tried} {g : Bool} {k : ℕ} {j : Joiner} {ms : List Message} → to_come ps ts ≤ n →
      Out code bytes p ps ts older log → Has code bytes p ps xs ts j ms → ApartWith code bytes g p older log →
      Course code bytes log xs r n (bench_of r j (busy p ps (length ts) k) (record { copy = copy_of ts p; log = present code bytes g out p (length ts) ts older ∷ log }) ms)
  ended : {j : Joiner} {s : SenderState} {m : Begun} {ms : List Message} {f : Bool} → s.queue ≡ [] → s.failed ≡ f → Past (m ∷ log) ms → Rested (m ∷ log) s.last f j →
      Finished code bytes xs ms m → Course code bytes log xs r n (bench_of r j s (record { copy = []; log = m ∷ log }) ms)

-- So it stands.
pub course_stands : {code n : ℕ} {bytes : List ℕ} {log : List Begun} {xs : List Message} {r : ReaderState} {b : Bench} → HandsOut log xs → Course code bytes log xs r n b → Standing r b
course_stands h (still_out l w has a) = standing (at_work w h has a)
course_stands h (ended q f past k m) = standing (at_rest q f past k)
