-- What each end makes of what arrives. The hub takes a whole copy, and else changes nothing and asks for it again or says nothing. The
-- reader's sender hears a whole answer, and else a time-out; no other byte goes out. Assumes nothing.
use Prim.Native.Nat.{ℕ}
use mathlib.Core.Path.{◌≡◌, refl, ◌∙◌}
use mathlib.Core.Bool.{Bool, true, false}
use mathlib.Core.List.{List, [], ◌∷◌, map, append-nil}
use native.Mathlib.Omega.{arith}
use lib.Dec.{ltb}
use Rattle.words.specs.Machine.{Done, after, through, given}
use Rattle.words.proofs.Lists.{bytes_nil, bytes_cons, never}
use Rattle.words.proofs.Machine.{through_one}
use Rattle.packet.specs.Opcodes.{host, cmd_ack, cmd_nak}
use Rattle.packet.specs.Packet.{body_of, seal, data_in, reply_data, reply_opcode, reply_body, is_answer}
use Rattle.packet.specs.Refusals.{cause_of, nak_bytes}
use Rattle.packet.specs.declared.Refusal.{Refusal}
use Rattle.packet.specs.declared.Reply.{Reply}
use Rattle.packet.specs.declared.Reply.TheVariants as reply
use Rattle.packet.proofs.Theorems.{Body, body_of_lem}
use Rattle.framer.specs.Framer.{hearing, Heard, packet}
use Rattle.framer.specs.declared.Event.{Event}
use Rattle.framer.proofs.Behind.{framed_run}
use Rattle.hub.specs.Joiner.{Joiner}
use Rattle.hub.specs.Joiner as joiner
use Rattle.hub.specs.Hub.{HubState, hub_step}
use Rattle.hub.specs.Hub as hub
use Rattle.hub.proofs.Theorems.{idle}
use Rattle.hub.proofs.Calm.{Calm, ends, gap, calm_append, calm_bytes, calm_run}
use Rattle.sender.specs.Sender.{SenderState, sending, some, Sent, fails, resends, out_step, sender_step, heed_of}
use Rattle.sender.specs.declared.Heard.TheVariants as heard
use Rattle.sender.specs.declared.Heard.{Heard as ForSender}
use Rattle.reader.specs.Reader.{ReaderState, CoreState, Output, sent, no_packet_step, sender_hears, packet_step, heard_step, reader_step, with_core, time_out}
use Rattle.reader.specs.Promises.{sent_of}
use Rattle.reader.proofs.Answering.{sent_sent}
use Rattle.bench.specs.Bench.{Fate, whole, left, gap_after, arrives, answers_in, in_time}
use Rattle.bench.specs.Delivery.{arrived}
use Rattle.bench.proofs.Arriving.{Unheard, silence, noise, Comes, came, stayed, Arrival}

-- ---- the hub

calm_arrives : (f : Fate) (bytes : List ℕ) → Calm (arrives f bytes)
unfolding arrives gap_after
calm_arrives f bytes = calm_append (calm_bytes (left f bytes)) (gap ends)

hub_run : {body : List ℕ} {f : Fate} (j : Joiner) (a : Arrival body f) →
    through hub_step (idle j) (arrives f (seal body))
    ≡ record { next = idle (through hub.heard_step j a.heard).next; told = (through hub.heard_step j a.heard).told }
hub_run {body} {f} j a =
    calm_run (idle j) (calm_arrives f (seal body)) ∙ (framed_run hub.heard_step (idle j) (arrives f (seal body)) ∙ rw a.is refl)

-- A whole copy is a packet's step; of anything else the hub tells at most a refusal of cause 1.
pub data HubHears (j : Joiner) (body : List ℕ) : Fate → Done HubState joiner.Output → Type 0 where
  takes : HubHears j body whole (record { next = idle (hub.packet_step j body).next; told = (hub.packet_step j body).told })
  misses : {f : Fate} → arrived f ≡ false → HubHears j body f (record { next = idle j; told = [] })
  refuses : {f : Fate} {r : Refusal} → arrived f ≡ false →
      HubHears j body f (record { next = idle j; told = joiner.refused r ∷ joiner.answered (seal (reply_body host (reply.Nak 1))) ∷ [] })

-- A refusal of cause 1 asks for the copy again.
asks_again : (r : Refusal) → cause_of r ≡ 1 → given joiner.answered (nak_bytes host r) ≡ joiner.answered (seal (reply_body host (reply.Nak 1))) ∷ []
unfolding given nak_bytes seal reply_body reply_opcode reply_data body_of
asks_again r c = simp c

hub_by : {body : List ℕ} {f : Fate} {hs : List Heard} (j : Joiner) → Comes body f hs →
    HubHears j body f (record { next = idle (through hub.heard_step j hs).next; told = (through hub.heard_step j hs).told })
unfolding through after hub.heard_step
hub_by {body} j came = rw (append-nil (hub.packet_step j body).told) takes
hub_by j (stayed e silence) = misses e
hub_by j (stayed e (noise {r} c)) = rw (asks_again r c) (refuses e)

pub hub_hears_lem : {body : List ℕ} {f : Fate} (j : Joiner) → Arrival body f → HubHears j body f (through hub_step (idle j) (arrives f (seal body)))
hub_hears_lem j a = rw (hub_run j a) (hub_by j a.comes)

-- ---- the reader

-- A reader with nothing begun and this sender; the rest of it is any reader's.
abbrev pub with_sender : ReaderState → SenderState → ReaderState
with_sender r s = record { line = hearing []; core = record { device = r.core.device; last = r.core.last; last_answer = r.core.last_answer; sender = s } }

-- A sender with a message out.
abbrev pub busy : List ℕ → List (List ℕ) → ℕ → ℕ → SenderState
busy p ps n k = sending (p ∷ ps) n k

-- The two answers that a hub gives to copies, and what the sender hears of them.
pub data Says : Reply → ForSender → Type 0 where
  ack : Says reply.Ack heard.Ack
  again : Says (reply.Nak 1) (heard.Nak 1)

pub reply_body_lem : {x : Reply} {h : ForSender} → Says x h → Body (reply_body host x)
unfolding reply_body reply_opcode reply_data
reply_body_lem ack = body_of_lem cmd_ack host 0 [] (omega arith) (omega arith) (omega arith) bytes_nil (omega arith)
reply_body_lem again = body_of_lem cmd_nak host 0 (1 ∷ []) (omega arith) (omega arith) (omega arith) (bytes_cons (omega arith) bytes_nil) (omega arith)

-- Of a step of the whole end: the sender heard this, and no other byte goes out.
pub record Hears (r : ReaderState) (s : SenderState) (h : ForSender) (d : Done ReaderState Output) : Type 0 where
  pub next_is : d.next ≡ with_sender r (sender_step s h).next
  pub sent_is : sent_of d.told ≡ (sender_step s h).told
  pub quiet : answers_in d.told ≡ []

sent_quiet : (xs : List Sent) → answers_in (map sent xs) ≡ []
unfolding answers_in
sent_quiet [] = refl
sent_quiet (x ∷ xs) = sent_quiet xs

-- To an answer the sender always says something.
resends_something : (d : Bool) (p : List ℕ) (s : SenderState) → ltb s.resends 2 ≡ d → (resends p s).told ≡ [] → ⊥
unfolding resends fails
resends_something true p s e f = let g = simp e at f in never (cc)
resends_something false p s e f = let g = simp e at f in never (cc)

module _ (p : List ℕ) (n k : ℕ) where
  answers_something : {x : Reply} {h : ForSender} (ps : List (List ℕ)) → Says x h → (sender_step (busy p ps n k) h).told ≡ [] → ⊥
  unfolding sender_step out_step
  answers_something [] ack e = never (cc)
  answers_something (q ∷ ps) ack e = never (cc)
  answers_something ps again e = resends_something (ltb n 2) p (busy p ps n k) refl e

-- What a reader does with events: a time-out follows where its sender says nothing.
abbrev pub answered_in : ReaderState → List Event → Done ReaderState Output
answered_in r es = in_time (sent_of (through reader_step r es).told) (through reader_step r es)

no_time_out : (xs : List Sent) (d : Done ReaderState Output) → (xs ≡ [] → ⊥) → in_time xs d ≡ d
unfolding in_time
no_time_out [] d h = absurd (h refl)
no_time_out (x ∷ xs) d h = refl

-- A reader with nothing begun goes by what its framer hears.
reader_run : {body : List ℕ} {f : Fate} (r : ReaderState) (s : SenderState) (a : Arrival body f) →
    through reader_step (with_sender r s) (arrives f (seal body))
    ≡ record {
      next = record { line = hearing []; core = (through heard_step (with_sender r s).core a.heard).next };
      told = (through heard_step (with_sender r s).core a.heard).told;
    }
unfolding reader_step
reader_run {body} {f} r s a = framed_run heard_step (with_sender r s) (arrives f (seal body)) ∙ rw a.is refl

-- An answer that is whole is heard in time; where it did not arrive, there is a time-out.
pub data ReaderHears (r : ReaderState) (s : SenderState) (h : ForSender) : Fate → Done ReaderState Output → Type 0 where
  in_time_lem : {d : Done ReaderState Output} → Hears r s h d → ReaderHears r s h whole d
  too_late : {f : Fate} {d : Done ReaderState Output} → arrived f ≡ false → Hears r s heard.TimeOut d → ReaderHears r s h f d

module _ (r : ReaderState) (p : List ℕ) (ps : List (List ℕ)) (n k : ℕ) where
  abbrev waiting : SenderState
  waiting = busy p ps n k

  abbrev core : CoreState
  core = (with_sender r waiting).core

  -- What the whole end does once its framer has heard this.
  abbrev on_hearing : List Heard → Done ReaderState Output
  on_hearing hs = record { next = record { line = hearing []; core = (through heard_step core hs).next }; told = (through heard_step core hs).told }

  -- What the sender says goes on the sheet; a reader that hears only for its sender answers nothing.
  told_sent : (h : ForSender) → Hears r waiting h (with_core (with_sender r waiting) (sender_hears core (sender_step waiting h)))
  unfolding with_core sender_hears
  told_sent h = record { next_is = refl; sent_is = sent_sent (sender_step waiting h).told; quiet = sent_quiet (sender_step waiting h).told }

  -- Refusals 1 to 3 it keeps to itself while its sender waits.
  unheard_time_out : {hs : List Heard} → Unheard hs → Hears r waiting heard.TimeOut (in_time (sent_of (on_hearing hs).told) (on_hearing hs))
  unfolding through after heard_step no_packet_step some sent_of answers_in in_time time_out with_core sender_hears
  unheard_time_out silence = told_sent heard.TimeOut
  unheard_time_out (noise c) = let t = told_sent heard.TimeOut in record { next_is = refl; sent_is = t.sent_is; quiet = t.quiet }

  -- An answer goes to the sender.
  answer_step : {x : Reply} {h : ForSender} → Says x h → packet_step core (reply_body host x) ≡ sender_hears core (sender_step waiting h)
  unfolding packet_step is_answer reply_body reply_opcode reply_data body_of data_in heed_of
  answer_step ack = refl
  answer_step again = refl

  answer_heard : {x : Reply} {h : ForSender} → Says x h → through heard_step core (packet (reply_body host x) ∷ []) ≡ sender_hears core (sender_step waiting h)
  unfolding heard_step
  answer_heard {x} w = through_one heard_step core (packet (reply_body host x)) ∙ answer_step w

  answer_in_time : {x : Reply} {h : ForSender} → Says x h →
      Hears r waiting h (in_time (sent_of (on_hearing (packet (reply_body host x) ∷ [])).told) (on_hearing (packet (reply_body host x) ∷ [])))
  unfolding with_core sender_hears
  answer_in_time {x} {h} w =
      let told = (sender_step waiting h).told in
      let step = with_core (with_sender r waiting) (sender_hears core (sender_step waiting h)) in
      rw (answer_heard w, sent_sent told, no_time_out told step (answers_something p n k ps w)) (told_sent h)

  reader_by : {x : Reply} {h : ForSender} {f : Fate} {hs : List Heard} → Says x h → Comes (reply_body host x) f hs →
      ReaderHears r waiting h f (in_time (sent_of (on_hearing hs).told) (on_hearing hs))
  reader_by w came = in_time_lem (answer_in_time w)
  reader_by w (stayed e u) = too_late e (unheard_time_out u)

  -- What the hub told was answered by these bytes, and they had this fate.
  pub reader_hears_lem : {x : Reply} {h : ForSender} {f : Fate} → Says x h → Arrival (reply_body host x) f →
      ReaderHears r waiting h f (answered_in (with_sender r waiting) (arrives f (seal (reply_body host x))))
  reader_hears_lem w a = rw (reader_run r waiting a) (reader_by w a.comes)

  -- The hub told nothing.
  pub reader_waits : Hears r waiting heard.TimeOut (answered_in (with_sender r waiting) [])
  unfolding through
  reader_waits = unheard_time_out silence
