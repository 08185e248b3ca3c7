-- A start keeps a bench standing: where it is refused nothing changes, and else the hub, behind a message gap if one is due, has gathered
-- nothing, and the first packet is not the one that it accepted last. Assumes nothing.
use Prim.Native.Nat.{ℕ, ◌*◌, ◌≤◌, ◌<◌}
use mathlib.Core.Path.{◌≡◌, refl, sym, ◌∙◌}
use mathlib.Core.Bool.{Bool, true, false}
use mathlib.Core.List.{List, [], ◌∷◌, ◌++◌, flat_map}
use native.Mathlib.Omega.{arith}
use lib.Dec.{ltb}
use lib.ListN.{length}
use borrow.Author.Tests.{ltb-false}
use Rattle.words.specs.Lists.{either, same_bytes, Bytes, none as no-try}
use Rattle.packet.specs.Sizes.{message_size}
use Rattle.hub.specs.Joiner.{Joiner}
use Rattle.hub.specs.Joiner as joiner
use Rattle.sender.specs.Pieces.{packets_of}
use Rattle.sender.specs.Sender as sender
use Rattle.sender.specs.Sender.{SenderState, some, waits, gap_due, start_step}
use Rattle.sender.proofs.Theorems.{start_accepted, start_refused}
use Rattle.reader.specs.Reader.{ReaderState, start_message, with_core, sender_hears}
use Rattle.reader.proofs.Answering.{sent_sent}
use Rattle.bench.specs.Bench.{out, Begun, Message, Sheet, Bench, latest, handing, hub_answers, noted, noting, begins, begin, start, bench_step}
use Rattle.bench.specs.Delivery.{gap_of, on_line, in_order}
use Rattle.bench.proofs.Carrying.{free, Sendable, Carries, first_sendable, packets_carry}
use Rattle.bench.proofs.Hearing.{with_sender, busy}
use Rattle.bench.proofs.Rounds.{bench_of}
use Rattle.bench.proofs.Standing.{last_on, apart_more, Past, Rested, gap_first_lem, gap_new, gap_apart, present, first_copy, noted_first, not_yet, Stands, at_rest, at_work, Standing, standing, Course, still_out, course_stands}

module _ (r : ReaderState) (j : Joiner) (s : SenderState) (sheet : Sheet) (ms : List Message) (code : ℕ) (m : List ℕ) where
  abbrev b : Bench
  b = bench_of r j s sheet ms

  -- What a start comes to, by what the sender does.
  start_is : bench_step b (start code m) ≡ begins b code m (with_sender r (start_step s code m).next) (start_step s code m).told
  unfolding bench_step begin start_message with_core sender_hears
  start_is = rw (sent_sent (start_step s code m).told) refl

  -- A refused start begins nothing.
  start_stays : either (ltb message_size (length m)) (waits s) ≡ true → bench_step b (start code m) ≡ b
  unfolding begins
  start_stays e = start_is ∙ rw (start_refused s code m e) refl

-- The gap that is told, by whether the message before failed.
due_by : {f : Bool} (s : SenderState) (p : List ℕ) → s.failed ≡ f → gap_due s p ≡ either f (same_bytes s.last p)
unfolding gap_due
due_by s p e = rw e refl

-- An accepted one puts the first packet on the line.
start_begins : {log : List Begun} {f : Bool} {j : Joiner} {p : List ℕ} {ps : List (List ℕ)} (r : ReaderState) (s : SenderState) (ms : List Message)
    (code : ℕ) (m : List ℕ) (g : Bool) → length m ≤ message_size → waits s ≡ false → gap_due s p ≡ g → either f (same_bytes s.last p) ≡ g → Rested log s.last f j →
    packets_of code m ≡ p ∷ ps → Sendable p →
    bench_step (bench_of r j s (record { copy = []; log = log }) ms) (start code m)
    ≡ bench_of r (free (last_on (gap_of g ++ on_line log)) joiner.none) (busy p ps 0 0) (record { copy = p; log = present code m g out p 0 [] [] ∷ log }) ms
unfolding begins sender.begins noting noted latest handing hub_answers flat_map
start_begins {log} {f} {j} {p} {ps} r s ms code m g few w d e k q c =
    start_is r j s (record { copy = []; log = log }) ms code m
    ∙ rw (start_accepted s code m few w, q, d, gap_first_lem p g k e, noted_first _ _ c) refl

-- So it is out, with three tries to come for each packet.
begun_goes : {log : List Begun} {f : Bool} {j : Joiner} {qs : List (List ℕ)} (r : ReaderState) (s : SenderState) (ms : List Message) (code : ℕ) (m : List ℕ) →
    length m ≤ message_size → waits s ≡ false → s.failed ≡ f → Past log ms → Rested log s.last f j → packets_of code m ≡ qs → Carries code m joiner.none qs →
    Course code m log ms r (length qs * 3) (bench_step (bench_of r j s (record { copy = []; log = log }) ms) (start code m))
unfolding in_order on_line
begun_goes {qs = []} r s ms code m few w q past k e n = elim n [ ]
begun_goes {log} {f} {qs = p ∷ ps} r s ms code m few w q past k e n =
    let c = first_sendable n in
    let least = c.body.least in
    let g = either f (same_bytes s.last p) in
    let is = start_begins r s ms code m g few w (due_by s p q) refl k e c in
    let new = gap_new p g (omega arith) k refl in
    rw is
    (still_out {ps = ps} {ts = []} (omega arith) (first_copy c no-try (sym e) past.honest past.sends) (not_yet new n)
    (apart_more p (gap_of g ++ on_line log) new (gap_apart g log past.apart_line)))

idle_waits : (s : SenderState) → s.queue ≡ [] → waits s ≡ false
unfolding some
idle_waits s e = rw e refl

refused_waits : (d : Bool) (p : List ℕ) (ps : List (List ℕ)) → either d (some (p ∷ ps)) ≡ true
unfolding some
refused_waits true p ps = refl
refused_waits false p ps = refl

-- Nothing is out: a message of at most 4,096 bytes is begun.
module _ {log : List Begun} {f : Bool} {j : Joiner} (r : ReaderState) (s : SenderState) (ms : List Message) (code : ℕ) (m : List ℕ) (c : code < 256) (bytes : Bytes m)
    (q : s.queue ≡ []) (g : s.failed ≡ f) (past : Past log ms) (k : Rested log s.last f j) where
  pub rest_goes : length m ≤ message_size →
      Course code m log ms r (length (packets_of code m) * 3) (bench_step (bench_of r j s (record { copy = []; log = log }) ms) (start code m))
  rest_goes few = begun_goes r s ms code m few (idle_waits s q) g past k refl (packets_carry code m c bytes few)

  rest_starts : (d : Bool) → ltb message_size (length m) ≡ d → Standing r (bench_step (bench_of r j s (record { copy = []; log = log }) ms) (start code m))
  rest_starts true e = rw (start_stays r j s (record { copy = []; log = log }) ms code m (rw e refl)) (standing (at_rest q g past k))
  rest_starts false e = course_stands past.hands_out_lem (rest_goes (ltb-false message_size (length m) e))

pub start_stands : {j : Joiner} {s : SenderState} {sheet : Sheet} {ms : List Message} (r : ReaderState) (code : ℕ) (m : List ℕ) → code < 256 → Bytes m →
    Stands j s sheet ms → Standing r (bench_step (bench_of r j s sheet ms) (start code m))
start_stands r code m c bytes (at_rest {s = s} {ms = ms} q g past k) = rest_starts r s ms code m c bytes q g past k (ltb message_size (length m)) refl
start_stands {j} {s} {sheet} {ms} r code m c bytes (at_work {p = p} {ps} w h has a) =
    rw (start_stays r j s sheet ms code m (refused_waits (ltb message_size (length m)) p ps)) (standing (at_work w h has a))
