-- A message that is begun ends within three tries for each of its packets: each try leaves one less to come. One that failed had three bad tries of one
-- packet, so one whose packets all got through was delivered. Assumes nothing.
use Prim.Native.Nat.{ℕ, zero, suc, ◌*◌, ◌≤◌, ◌<◌}
use mathlib.Core.Path.{◌≡◌, refl}
use mathlib.Core.List.{List, [], ◌∷◌, map}
use native.Mathlib.Omega.{arith}
use lib.ListN.{length}
use Rattle.words.specs.Lists.{Bytes, Each, none, one}
use Rattle.words.proofs.Lists.{never}
use Rattle.packet.specs.Sizes.{message_size}
use Rattle.hub.specs.Hub.{HubState}
use Rattle.hub.specs.Joiner.{Joiner}
use Rattle.sender.specs.Pieces.{packets_of}
use Rattle.sender.specs.Sender.{SenderState}
use Rattle.reader.specs.Reader.{ReaderState}
use Rattle.bench.specs.Bench.{Try, Tried, Ending, delivered, failed, out, Begun, Message, Sheet, Bench, trial, Move, start, attempt, bench_step, played, FairMove, fair_try, bench}
use Rattle.bench.specs.Delivery.{Ready, HandsOut, Bad, LostOut, three, Honest}
use Rattle.bench.specs.Ends.{Some, here, behind, Good, GotThrough, Ends}
use Rattle.bench.proofs.Demand3.{run_stands}
use Rattle.bench.proofs.Rounds.{bench_of}
use Rattle.bench.proofs.Standing.{Stands, at_rest, at_work, Course, still_out, ended}
use Rattle.bench.proofs.Starting.{rest_goes}
use Rattle.bench.proofs.Trying.{try_goes, copy_some}

-- ---- each try is one less

module _ {code : ℕ} {bytes : List ℕ} {log : List Begun} {xs : List Message} {r : ReaderState} (h : HandsOut log xs) where
  course_step : {n : ℕ} {b : Bench} {t : Try} → FairMove (attempt t) → Course code bytes log xs r (suc n) b → Course code bytes log xs r n (bench_step b (attempt t))
  unfolding bench_step trial
  course_step (fair_try {t} going coming) (still_out {g = g} {k = k} l w has a) = try_goes r g k t going coming l w h has a
  course_step (fair_try going coming) (ended q f past k m) = ended q f past k m

  -- With none to come it has ended, and stays so.
  course_rests : {b : Bench} (t : Try) → Course code bytes log xs r 0 b → Course code bytes log xs r 0 (bench_step b (attempt t))
  unfolding bench_step trial
  course_rests t (still_out {ts = ts} l w has a) = absurd (let few = w.few in omega arith)
  course_rests t (ended q f past k m) = ended q f past k m

  tries_end : {n : ℕ} {b : Bench} (ts : List Try) → n ≤ length ts → Each (λ (t : Try). FairMove (attempt t)) ts → Course code bytes log xs r n b →
      Course code bytes log xs r 0 (played b (map attempt ts))
  unfolding played
  tries_end {n = zero} [] l none c = c
  tries_end {n = suc n} [] l none c = absurd (omega arith)
  tries_end {n = zero} {b = b} (t ∷ ts) l (one f fs) c = tries_end {n = zero} {b = bench_step b (attempt t)} ts (omega arith) fs (course_rests t c)
  tries_end {n = suc n} {b = b} (t ∷ ts) l (one f fs) c = tries_end {n = n} {b = bench_step b (attempt t)} ts (omega arith) fs (course_step f c)

-- ---- what becomes of it

bad_good : {ts : List Try} → Each Bad ts → Some Good ts → ⊥
bad_good none g = elim g [ ]
bad_good (one b bs) (here g) = never (cc)
bad_good (one b bs) (behind g) = bad_good bs g

lost_through : {ps : List Tried} → LostOut ps → Each GotThrough ps → ⊥
lost_through (three l bad) (one g gs) = bad_good bad g

ends_delivered : {m : Begun} (x : Ending) → m.ending ≡ x → (m.ending ≡ out → ⊥) → Honest m → Each GotThrough m.packets → m.ending ≡ delivered
ends_delivered delivered e over h g = e
ends_delivered failed e over h g = absurd (lost_through (h.lost_out e) g)
ends_delivered out e over h g = absurd (over e)

first_honest : {m : Begun} {log : List Begun} → Each Honest (m ∷ log) → Honest m
first_honest (one h hs) = h

course_ends : {code : ℕ} {bytes : List ℕ} {b e : Bench} {r : ReaderState} → Course code bytes b.sheet.log b.handed r 0 e → Ends code bytes b e
course_ends (still_out l w has a) = absurd (let few = w.few in omega arith)
course_ends (ended {m = m} q f past k finished) =
    record {
      begun = m;
      logged = refl;
      its = finished.its;
      over = finished.over;
      delivers = λ g. ends_delivered m.ending refl finished.over (first_honest past.honest) g;
      hands_out_lem = finished.whole;
    }

-- ---- the theorem

-- From a bench that stands with no copy on its line.
module _ (r : ReaderState) (code : ℕ) (m : List ℕ) (c : code < 256) (bytes : Bytes m) (few : length m ≤ message_size) (ts : List Try)
    (fair : Each (λ (t : Try). FairMove (attempt t)) ts) (enough : length (packets_of code m) * 3 ≤ length ts) where
  rest_ends : {j : Joiner} {s : SenderState} {sheet : Sheet} {ms : List Message} → sheet.copy ≡ [] → Stands j s sheet ms →
      Ends code m (bench_of r j s sheet ms) (played (bench_of r j s sheet ms) (start code m ∷ map attempt ts))
  unfolding played
  rest_ends e (at_rest {s = s} {ms = ms} q f past k) = course_ends (tries_end past.hands_out_lem ts enough fair (rest_goes r s ms code m c bytes q f past k few))
  rest_ends e (at_work {p = p} {ts = us} w h has a) = absurd (copy_some us w.sendable.body e)

-- Whatever came before: a message that is begun with nothing out ends within three tries for each of its packets, and is delivered and handed out
-- if each of them got through.
pub message_ends : (hub : HubState) (reader : ReaderState) (moves : List Move) → Ready reader → Each FairMove moves → (played (bench hub reader) moves).sheet.copy ≡ [] →
    (code : ℕ) (m : List ℕ) → code < 256 → Bytes m → length m ≤ message_size →
    (ts : List Try) → Each (λ (t : Try). FairMove (attempt t)) ts → length (packets_of code m) * 3 ≤ length ts →
    Ends code m (played (bench hub reader) moves) (played (played (bench hub reader) moves) (start code m ∷ map attempt ts))
message_ends hub reader moves k fair e code m c bytes few ts fairly enough =
    let s = run_stands hub reader moves k fair in
    rw s.is (rest_ends reader code m c bytes few ts fairly enough (rw s.is at e) s.stands)
