-- A try keeps a bench standing, and brings the message that is out one try nearer to its end: the sender goes on, is done, asks again, or gives up
-- behind three bad tries. Assumes nothing.
use Prim.Native.Nat.{ℕ, suc, ◌%◌, ◌≤◌, ◌<◌}
use mathlib.Core.Path.{◌≡◌, refl, ap}
use mathlib.Core.Bool.{Bool, true, false}
use mathlib.Core.List.{List, [], ◌∷◌}
use native.Mathlib.Numerals.{add-one}
use native.Mathlib.Omega.{arith}
use lib.Dec.{ltb}
use lib.ListN.{length, get_or}
use borrow.Author.Tests.{ne_eqb, ltb-true, ltb-false}
use Rattle.words.specs.Lists.{one}
use Rattle.words.proofs.Lists.{never}
use Rattle.packet.specs.Packet.{marked}
use Rattle.packet.proofs.Theorems.{Body}
use Rattle.hub.specs.Joiner.{Gathered, Joiner, Output}
use Rattle.hub.specs.Joiner as joiner
use Rattle.sender.specs.Sender.{SenderState, fails, resends, out_step, sender_step}
use Rattle.sender.specs.declared.Heard.{Heard}
use Rattle.sender.specs.declared.Heard.TheVariants.{Ack}
use Rattle.sender.proofs.Theorems.{Again, again_step, marked_body}
use Rattle.reader.specs.Reader.{ReaderState}
use Rattle.bench.specs.Bench.{Fair, Try, Tried, delivered, failed, out, Begun, Message, latest, Sheet, Bench, noted, handing, noting, trial, attempt, bench_step}
use Rattle.bench.specs.Delivery.{on_line, HandsOut, handed, Thrice, waiting_at, from_latest, Bad, three, Honest, in_order, Sends}
use Rattle.bench.proofs.Carrying.{free, first_sendable, Onward, goes_on_lem, came_out}
use Rattle.bench.proofs.Hearing.{busy}
use Rattle.bench.proofs.Rounds.{bench_of, sheet_after, Round, acknowledged, unanswered, missed, round}
use Rattle.bench.proofs.Standing.{last_on, apart_more, its_last, Past, gap_due_lem, ready, packet_of, present, at_most_thrice, copy_of, Out, Has, not_yet, already, first_copy, noted_first, later, not_ended, takes, ApartWith, Stands, at_rest, at_work, Standing, standing, to_come, Course, still_out, ended, course_stands}

module _ {code : ℕ} {bytes p : List ℕ} {ps : List (List ℕ)} {ts : List Try} {older : List Tried} {log : List Begun} (w : Out code bytes p ps ts older log)
    (g : Bool) (k : ℕ) (t : Try) where
  -- The sender before the try, and the sheet on which the try is noted already.
  abbrev sender : SenderState
  sender = busy p ps (length ts) k

  abbrev sheet : List ℕ → Sheet
  sheet c = record { copy = c; log = present code bytes g out p (length ts) (t ∷ ts) older ∷ log }

  -- Every copy of the packet was tried now.
  tried_thrice : Thrice 0 (packet_of p (length ts) (t ∷ ts))
  tried_thrice = at_most_thrice (t ∷ ts) w.few (omega arith)

  -- ---- asked again

  -- The third bad try of this packet: the message failed, and the demand allows it.
  failed_honest : length ts ≡ 2 → Bad t → Honest (present code bytes g failed p (length ts) (t ∷ ts) older)
  unfolding waiting_at
  failed_honest e b =
      record {
        thrice = from_latest tried_thrice w.thrice;
        lost_out = λ q. three {p = packet_of p (length ts) (t ∷ ts)} (omega arith) (one b w.bad);
      }

  failed_sends : Sends (present code bytes g failed p (length ts) (t ∷ ts) older)
  unfolding in_order
  failed_sends = record { rest = ps; are = w.order; all_of = λ q. never (cc) }

  failed_past : {xs ms : List Message} {j : Joiner} → length ts ≡ 2 → Bad t → HandsOut log xs → Has code bytes p ps xs (t ∷ ts) j ms → ApartWith code bytes g p older log →
      Past (present code bytes g failed p (length ts) (t ∷ ts) older ∷ log) ms
  unfolding on_line
  failed_past e b h c a =
      record {
        hands_out_lem = not_ended (present code bytes g failed p (length ts) (t ∷ ts) older) (λ q. never (cc)) refl h c;
        honest = one (failed_honest e b) w.honest;
        sends = one failed_sends w.sends;
        apart_line = a;
      }

  -- One more bad try of the packet, which is sent again.
  one_more : length ts < 2 → Bad t → Out code bytes p ps (t ∷ ts) older log
  one_more l b = record { sendable = w.sendable; few = l; bad = one b w.bad; thrice = w.thrice; order = w.order; honest = w.honest; sends = w.sends }

  -- The packet's next copy goes on the line, or all three tries were bad.
  asked_again : {n : ℕ} {xs ms : List Message} {j : Joiner} (r : ReaderState) → Bad t → HandsOut log xs → Has code bytes p ps xs (t ∷ ts) j ms → ApartWith code bytes g p older log →
      to_come ps ts ≤ suc n → (d : Bool) (c : List ℕ) → ltb (length ts) 2 ≡ d →
      Course code bytes log xs r n (bench_of r j (resends p sender).next (noting (sheet c) (resends p sender).told) ms)
  unfolding resends fails noting noted latest
  asked_again r b h has a l true c e =
      let few = ltb-true (length ts) 2 e in
      simp (e, ne_eqb (get_or (marked p) 3 0 % 2) 0 (λ z. let o = w.sendable.odd in omega arith), add-one)
      (still_out {ps = ps} {ts = t ∷ ts} (omega arith) (one_more few b) has a)
  asked_again r b h has a l false c e =
      let late = ltb-false (length ts) 2 e in
      let few = w.few in
      simp e (ended refl refl (failed_past (omega arith) b h has a) gap_due_lem (record { its = refl; over = λ q. never (cc); whole = λ q. never (cc) }))

  asked_goes : {n : ℕ} {h : Heard} {xs ms : List Message} {j : Joiner} (r : ReaderState) (c : List ℕ) → Again h → Bad t → HandsOut log xs → Has code bytes p ps xs (t ∷ ts) j ms →
      ApartWith code bytes g p older log → to_come ps ts ≤ suc n →
      Course code bytes log xs r n (bench_of r j (sender_step sender h).next (sheet_after sender c (sheet c).log h) ms)
  unfolding sender_step
  asked_goes r c again b h has a l = rw (again_step p ps sender again) (asked_again r b h has a l (ltb (length ts) 2) c refl)

  -- ---- acknowledged

  ended_honest : Honest (present code bytes g delivered p (length ts) (t ∷ ts) older)
  unfolding waiting_at
  ended_honest = record { thrice = from_latest tried_thrice w.thrice; lost_out = λ q. never (cc) }

-- The sender goes on to the next packet, which is another one, or the message was delivered.
acknowledged_goes : {n code : ℕ} {bytes p : List ℕ} {ps : List (List ℕ)} {ts : List Try} {older : List Tried} {log : List Begun} {xs ms : List Message}
    {gathered : Gathered} (r : ReaderState) (g : Bool) (k : ℕ) (t : Try) (c : List ℕ) → Out code bytes p ps ts older log → HandsOut log xs → Onward code bytes p gathered ps xs ms →
    ApartWith code bytes g p older log → to_come ps ts ≤ suc n →
    Course code bytes log xs r n
    (bench_of r (free p gathered) (sender_step (busy p ps (length ts) k) Ack).next
    (sheet_after (busy p ps (length ts) k) c (present code bytes g out p (length ts) (t ∷ ts) older ∷ log) Ack) ms)
unfolding sender_step out_step noting noted latest in_order on_line last_on
acknowledged_goes {code = code} {bytes} {p} {ts = ts} {older} {log} r g k t c w h (goes_on_lem {q = q} {qs} new n) a l =
    let s = first_sendable n in
    let few = w.few in
    let line = on_line (present code bytes g out p (length ts) (t ∷ ts) older ∷ log) in
    rw (noted_first _ _ s)
    (still_out {ps = qs} {ts = []} (omega arith) (first_copy s (one (tried_thrice w g k t) w.thrice) w.order w.honest w.sends) (not_yet new n) (apart_more q line new a))
acknowledged_goes r g k t c w h came_out a l =
    ended refl refl
    (record {
      hands_out_lem = handed refl h;
      honest = one (ended_honest w g k t) w.honest;
      sends = one (record { rest = []; are = w.order; all_of = λ q. refl }) w.sends;
      apart_line = a;
    })
    (ready its_last)
    (record { its = refl; over = λ q. never (cc); whole = λ q. refl })

-- ---- the try

-- Each of the three rounds goes on with the message.
round_goes : {n code : ℕ} {bytes p : List ℕ} {ps : List (List ℕ)} {ts : List Try} {older : List Tried} {log : List Begun} {xs ms : List Message}
    {gathered : Gathered} {r : ReaderState} {j : Joiner} {o : Output} (g : Bool) (k : ℕ) (t : Try) {b : Bench} →
    Out code bytes p ps ts older log → HandsOut log xs → Has code bytes p ps xs ts j ms → Onward code bytes p gathered ps xs (handing (joiner.acknowledged o) ms) →
    ApartWith code bytes g p older log → to_come ps ts ≤ suc n →
    Round r (busy p ps (length ts) k) (copy_of ts p) (present code bytes g out p (length ts) ts older ∷ log) j (free p gathered) o ms t b →
    Course code bytes log xs r n b
unfolding latest
round_goes {p = p} {ts = ts} {r = r} g k t w h has on a l acknowledged = acknowledged_goes r g k t (copy_of ts p) w h on a l
round_goes {p = p} {ts = ts} {r = r} g k t w h has on a l (unanswered again bad) = asked_goes w g k t r (copy_of ts p) again bad h (already on) a l
round_goes {p = p} {ts = ts} {r = r} g k t w h has on a l (missed again bad) = asked_goes w g k t r (copy_of ts p) again bad h (later t has) a l

copy_body : (ts : List Try) {p : List ℕ} → Body p → Body (copy_of ts p)
copy_body [] b = b
copy_body (t ∷ ts) {p} b = marked_body p b

-- There is a copy on the line then.
pub copy_some : (ts : List Try) {p : List ℕ} → Body p → copy_of ts p ≡ [] → ⊥
copy_some ts {p} b e = let least = (copy_body ts b).least in let z = ap length e in absurd (omega arith)

-- A fair try of a message that is out.
module _ {n code : ℕ} {bytes p : List ℕ} {ps : List (List ℕ)} {ts : List Try} {older : List Tried} {log : List Begun} {xs ms : List Message} {j : Joiner} (r : ReaderState) (g : Bool)
    (k : ℕ) (t : Try) (going : Fair t.going) (coming : Fair t.coming) where
  pub try_goes : to_come ps ts ≤ suc n → Out code bytes p ps ts older log → HandsOut log xs → Has code bytes p ps xs ts j ms → ApartWith code bytes g p older log →
      Course code bytes log xs r n
      (bench_step (bench_of r j (busy p ps (length ts) k) (record { copy = copy_of ts p; log = present code bytes g out p (length ts) ts older ∷ log }) ms) (attempt t))
  try_goes l w h has a =
      let q = takes w.sendable has in
      let c = copy_of ts p in
      let line = present code bytes g out p (length ts) ts older ∷ log in
      round_goes g k t w h has q.onward a l
      (round r p ps (length ts) k c line j (free p q.gathered) q.told ms q.step q.acked t (copy_body ts w.sendable.body) going coming)

-- With no copy on the line nothing happens.
pub try_stands : {j : Joiner} {s : SenderState} {sheet : Sheet} {ms : List Message} (r : ReaderState) (t : Try) → Fair t.going → Fair t.coming →
    Stands j s sheet ms → Standing r (bench_step (bench_of r j s sheet ms) (attempt t))
unfolding bench_step trial
try_stands r t going coming (at_rest q f w k) = standing (at_rest q f w k)
try_stands r t going coming (at_work {ps = ps} {ts = ts} {g = g} {k = k} w h has a) =
    course_stands h (try_goes {n = to_come ps ts} r g k t going coming (omega arith) w h has a)
