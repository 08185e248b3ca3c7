-- Demand 3: whatever is lost and whatever is spoiled so that no packet is accepted in it, the hub hands out the reader's messages in order
-- and once each; a message is called failed only behind three bad tries of one packet. Assumes nothing.
use Prim.Native.Nat.{ℕ}
use mathlib.Core.Path.{◌≡◌, refl, ap}
use mathlib.Core.Bool.{Bool, true, false}
use mathlib.Core.List.{List, [], ◌∷◌}
use native.Mathlib.Omega.{arith}
use lib.ListN.{length}
use Rattle.words.specs.Lists.{Each, none, one}
use Rattle.words.proofs.Lists.{never}
use Rattle.framer.specs.Framer.{Line}
use Rattle.hub.specs.Joiner.{Joiner}
use Rattle.hub.specs.Joiner as joiner
use Rattle.hub.specs.Hub.{HubState, cleared, hub_step}
use Rattle.sender.specs.Sender.{SenderState, some}
use Rattle.reader.specs.Reader.{ReaderState}
use Rattle.bench.specs.Bench.{delivered, failed, out, Message, Sheet, Bench, Move, bench_step, played, FairMove, fair_start, fair_try, bench}
use Rattle.bench.specs.Delivery.{Ready, on_line, apart, nothing, Thrice, waiting_at, from_latest, in_order, Delivers}
use Rattle.bench.proofs.Carrying.{free}
use Rattle.bench.proofs.Rounds.{bench_of}
use Rattle.bench.proofs.Standing.{last_on, no_packet, Past, Rested, gap_due_lem, ready, packet_of, present, at_most_thrice, not_ended, Stands, at_rest, at_work, Standing, standing}
use Rattle.bench.proofs.Starting.{start_stands}
use Rattle.bench.proofs.Trying.{try_stands}

-- ---- a bench that stands delivers

stands_delivers : {j : Joiner} {s : SenderState} {sheet : Sheet} {ms : List Message} (r : ReaderState) → Stands j s sheet ms → Delivers (bench_of r j s sheet ms)
unfolding in_order waiting_at
stands_delivers r (at_rest q f past k) = record { hands_out_lem = past.hands_out_lem; honest = past.honest; sends = past.sends; nothing_else = refl }
stands_delivers r (at_work {code} {bytes} {p} {ps} {ts} {older} {g = g} w h has a) =
    let thrice : Thrice 1 (packet_of p (length ts) ts) = at_most_thrice ts w.few (omega arith) in
    record {
      hands_out_lem = not_ended (present code bytes g out p (length ts) ts older) (λ e. never (cc)) refl h has;
      honest = one (record { thrice = from_latest thrice w.thrice; lost_out = λ (e : out ≡ failed). never (cc) }) w.honest;
      sends = one (record { rest = ps; are = w.order; all_of = λ (e : out ≡ delivered). never (cc) }) w.sends;
      nothing_else = refl;
    }

stands_apart : {j : Joiner} {s : SenderState} {sheet : Sheet} {ms : List Message} → Stands j s sheet ms → apart (on_line sheet.log) ≡ true
unfolding on_line
stands_apart (at_rest q f past k) = past.apart_line
stands_apart (at_work w h has a) = a

-- ---- every move keeps it standing

step_stands : {r : ReaderState} {b : Bench} {m : Move} → FairMove m → Standing r b → Standing r (bench_step b m)
step_stands {r} (fair_start {code} {m} c bytes) k = rw k.is (start_stands r code m c bytes k.stands)
step_stands {r} (fair_try {t} going coming) k = rw k.is (try_stands r t going coming k.stands)

played_stands : {r : ReaderState} {moves : List Move} (b : Bench) → Each FairMove moves → Standing r b → Standing r (played b moves)
unfolding played
played_stands b none k = k
played_stands b (one {x = m} h hs) k = played_stands (bench_step b m) hs (step_stands h k)

-- ---- the start

first_rest : (last : List ℕ) (f : Bool) → Rested [] last f (free [] joiner.none)
unfolding last_on on_line
first_rest last true = gap_due_lem
first_rest last false = ready no_packet

nothing_queued : (q : List (List ℕ)) → some q ≡ false → q ≡ []
unfolding some
nothing_queued [] e = refl
nothing_queued (p ∷ ps) e = never (cc)

-- Behind a message gap, whatever the hub was before it.
bench_is : (hub : HubState) (reader : ReaderState) → Ready reader →
    bench hub reader ≡ bench_of reader (free [] joiner.none) reader.core.sender (record { copy = []; log = [] }) []
unfolding bench hub_step cleared
bench_is hub reader k = ap (λ (l : Line). bench hub (record { line = l; core = reader.core })) k.idle

bench_stands : (hub : HubState) (reader : ReaderState) → Ready reader → Standing reader (bench hub reader)
unfolding on_line apart
bench_stands hub reader k =
    let s = reader.core.sender in
    let past : Past [] [] = record { hands_out_lem = nothing; honest = none; sends = none; apart_line = refl } in
    rw (bench_is hub reader k) (standing (at_rest (nothing_queued s.queue k.nothing_out_lem) refl past (first_rest s.last s.failed)))

-- ---- the theorems

-- Every run of the bench.
pub run_stands : (hub : HubState) (reader : ReaderState) (moves : List Move) → Ready reader → Each FairMove moves → Standing reader (played (bench hub reader) moves)
run_stands hub reader moves k fair = played_stands (bench hub reader) fair (bench_stands hub reader k)

-- Whatever becomes of copies and answers: the hub hands out the messages in order and once each, no packet is sent more than three times, and only
-- three bad tries of one packet fail.
pub demand_3 : (hub : HubState) (reader : ReaderState) (moves : List Move) → Ready reader → Each FairMove moves → Delivers (played (bench hub reader) moves)
demand_3 hub reader moves k fair = let end = run_stands hub reader moves k fair in rw end.is (stands_delivers reader end.stands)

-- What the sender puts on the line: no two neighbouring packets are equal, unless a message gap came between.
pub line_apart : (hub : HubState) (reader : ReaderState) (moves : List Move) → Ready reader → Each FairMove moves →
    apart (on_line (played (bench hub reader) moves).sheet.log) ≡ true
line_apart hub reader moves k fair = let end = run_stands hub reader moves k fair in rw end.is (stands_apart end.stands)
