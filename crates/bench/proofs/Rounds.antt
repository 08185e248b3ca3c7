-- One try on the bench, whatever becomes of copy and answer, comes to one of three things: the hub took the copy and the sender hears its
-- ACK; the hub took it and the sender asks again; or the hub is as it was and the sender asks again. Assumes nothing.
use Prim.Native.Nat.{ℕ, ◌≤◌}
use mathlib.Core.Path.{◌≡◌, refl, ap}
use mathlib.Core.Bool.{Bool, false}
use mathlib.Core.List.{List, [], ◌∷◌, flat_map, append-nil}
use native.Mathlib.Omega.{arith}
use lib.ListN.{length}
use Rattle.words.specs.Lists.{both}
use Rattle.words.specs.Machine.{Done}
use Rattle.packet.specs.Opcodes.{host}
use Rattle.packet.specs.Packet.{seal, reply_body}
use Rattle.packet.specs.declared.Reply.{Reply}
use Rattle.packet.specs.declared.Reply.TheVariants as reply
use Rattle.packet.proofs.Theorems.{Body}
use Rattle.framer.specs.declared.Event.{Event}
use Rattle.hub.specs.Joiner.{Joiner}
use Rattle.hub.specs.Joiner as joiner
use Rattle.hub.specs.Hub.{HubState, packet_step}
use Rattle.hub.proofs.Theorems.{idle}
use Rattle.sender.specs.Sender.{SenderState, sender_step}
use Rattle.sender.specs.declared.Heard.{Heard}
use Rattle.sender.specs.declared.Heard.TheVariants as heard
use Rattle.sender.proofs.Theorems.{Again, nak, time}
use Rattle.reader.specs.Reader.{ReaderState, Output}
use Rattle.bench.specs.Bench.{Fate, whole, arrives, Fair, Try, Begun, Message, latest, trying, Sheet, Bench, handing, hub_answers, noting, hub_hears, reader_hears, tried, trial, attempt, bench_step}
use Rattle.bench.specs.Delivery.{arrived, Bad}
use Rattle.bench.proofs.Arriving.{arrival}
use Rattle.bench.proofs.Hearing.{HubHears, takes, misses, refuses, hub_hears_lem, with_sender, busy, ack, again, reply_body_lem, Hears, answered_in, ReaderHears, in_time_lem, too_late, reader_hears_lem, reader_waits}

-- A bench with nothing begun on either line, and no stray bytes.
abbrev pub bench_of : ReaderState → Joiner → SenderState → Sheet → List Message → Bench
bench_of r j s sheet ms = record { hub = idle j; reader = with_sender r s; sheet = sheet; handed = ms; stray = [] }

-- The sheet once the sender has heard this; and the bench after a try, with this joiner and these messages handed out.
abbrev pub sheet_after : SenderState → List ℕ → List Begun → Heard → Sheet
sheet_after s c log h = noting (record { copy = c; log = log }) (sender_step s h).told

abbrev pub try_ends : ReaderState → SenderState → List ℕ → List Begun → Try → Joiner → List Message → Heard → Bench
try_ends r s c log t j ms h = bench_of r j (sender_step s h).next (sheet_after s c (latest (trying t) log) h) ms

-- The copy, where the hub takes it, leaves this joiner and is told so.
pub data Round (r : ReaderState) (s : SenderState) (c : List ℕ) (log : List Begun) (j j' : Joiner) (o : joiner.Output) (ms : List Message) (t : Try) :
    Bench → Type 0 where
  acknowledged : Round r s c log j j' o ms t (try_ends r s c log t j' (handing (joiner.acknowledged o) ms) heard.Ack)
  unanswered : {h : Heard} → Again h → Bad t → Round r s c log j j' o ms t (try_ends r s c log t j' (handing (joiner.acknowledged o) ms) h)
  missed : {h : Heard} → Again h → Bad t → Round r s c log j j' o ms t (try_ends r s c log t j ms h)

abbrev try_of : Fate → Fate → Try
try_of going coming = record { going = going; coming = coming }

bad_going : (f coming : Fate) → arrived f ≡ false → Bad (try_of f coming)
bad_going f coming e = ap (λ (d : Bool). both d (arrived coming)) e

-- What arrives at the reader of all that the hub told.
abbrev answers : Fate → List joiner.Output → List Event
answers f told = flat_map (arrives f) (hub_answers told)

-- The hub gave one answer.
one_answer : (x : Reply) (f : Fate) (told : List joiner.Output) → hub_answers told ≡ seal (reply_body host x) ∷ [] → answers f told ≡ arrives f (seal (reply_body host x))
unfolding flat_map
one_answer x f told e = rw e (append-nil (arrives f (seal (reply_body host x))))

-- With a copy on the line there is something to try.
trial_some : (b : Bench) (t : Try) (c : List ℕ) → 1 ≤ length c → trial c b t ≡ tried b t (hub_hears b t) (reader_hears b t (hub_hears b t).told)
unfolding trial
trial_some b t [] h = absurd (omega arith)
trial_some b t (x ∷ xs) h = refl

module _ (r : ReaderState) (p : List ℕ) (ps : List (List ℕ)) (n k : ℕ) (c : List ℕ) (log : List Begun) (j j' : Joiner) (o : joiner.Output)
    (ms : List Message) where
  abbrev s : SenderState
  s = busy p ps n k

  abbrev b : Bench
  b = bench_of r j s (record { copy = c; log = log }) ms

  abbrev Rounds : Try → Bench → Type 0
  Rounds t = Round r s c log j j' o ms t

  -- What the reader heard decides the rest of the bench.
  tried_so : {h : Heard} {rd : Done ReaderState Output} (t : Try) (hd : Done HubState joiner.Output) → Hears r s h rd →
      tried b t hd rd
      ≡ record {
        hub = hd.next;
        reader = with_sender r (sender_step s h).next;
        sheet = sheet_after s c (latest (trying t) log) h;
        handed = handing hd.told ms;
        stray = [];
      }
  unfolding tried
  tried_so t hd q = rw (q.next_is, q.sent_is, q.quiet) refl

  took : {coming : Fate} {rd : Done ReaderState Output} → ReaderHears r s heard.Ack coming rd →
      Rounds (try_of whole coming) (tried b (try_of whole coming) (record { next = idle j'; told = joiner.acknowledged o }) rd)
  unfolding arrived
  took (in_time_lem q) = rw (tried_so _ _ q) acknowledged
  took (too_late e q) = rw (tried_so _ _ q) (unanswered time e)

  -- The hub did not get the copy, and hands out nothing for it.
  left_as_it_was : {h : Heard} {going coming : Fate} {rd : Done ReaderState Output} (told : List joiner.Output) → arrived going ≡ false → handing told ms ≡ ms →
      Again h → Hears r s h rd → Rounds (try_of going coming) (tried b (try_of going coming) (record { next = idle j; told = told }) rd)
  left_as_it_was {going = going} {coming} told e q a h = rw (tried_so _ _ h, q) (missed a (bad_going going coming e))

  refused_copy : {going coming : Fate} {rd : Done ReaderState Output} (told : List joiner.Output) → arrived going ≡ false → handing told ms ≡ ms →
      ReaderHears r s (heard.Nak 1) coming rd → Rounds (try_of going coming) (tried b (try_of going coming) (record { next = idle j; told = told }) rd)
  refused_copy told e q (in_time_lem h) = left_as_it_was told e q nak h
  refused_copy told e q (too_late l h) = left_as_it_was told e q time h

  module _ (takes-it : packet_step j c ≡ record { next = j'; told = joiner.acknowledged o }) (acked : hub_answers (joiner.acknowledged o) ≡ seal (reply_body host reply.Ack) ∷ []) where
    round_by : {going : Fate} {hd : Done HubState joiner.Output} (coming : Fate) → Fair coming → HubHears j c going hd →
        Rounds (try_of going coming) (tried b (try_of going coming) hd (answered_in (with_sender r s) (answers coming hd.told)))
    unfolding flat_map handing hub_answers
    round_by coming fair takes =
        rw (takes-it, one_answer reply.Ack coming (joiner.acknowledged o) acked) (took (reader_hears_lem r p ps n k ack (arrival (reply_body host reply.Ack) (reply_body_lem ack) fair)))
    round_by coming fair (misses e) = left_as_it_was [] e refl time (reader_waits r p ps n k)
    round_by coming fair (refuses {r = x} e) =
        let told : List joiner.Output = joiner.refused x ∷ joiner.answered (seal (reply_body host (reply.Nak 1))) ∷ [] in
        rw (one_answer (reply.Nak 1) coming told refl)
        (refused_copy told e refl (reader_hears_lem r p ps n k again (arrival (reply_body host (reply.Nak 1)) (reply_body_lem again) fair)))

    -- A fair try of a copy on the line is one of the three.
    pub round : (t : Try) → Body c → Fair t.going → Fair t.coming → Rounds t (bench_step b (attempt t))
    unfolding bench_step hub_hears reader_hears
    round t body going coming =
        let l = body.least in
        rw (trial_some b t c (omega arith)) (round_by t.coming coming (hub_hears_lem j (arrival c body going)))
