-- What one packet comes to at the joiner, and one event at the hub: six cases, and what each leaves. Assumes nothing.
use Prim.Native.Nat.{ℕ, ◌+◌, ◌≤◌, ◌<◌}
use mathlib.Core.Path.{◌≡◌, refl, sym, ap, ◌∙◌}
use mathlib.Core.Bool.{Bool, true, false}
use mathlib.Core.List.{List, [], ◌∷◌, ◌++◌, append-nil}
use native.Mathlib.Omega.{arith}
use lib.Dec.{eqb, ltb}
use lib.ListN.{length, get_or, length-append}
use borrow.Author.Tests.{ne_eqb, ltb-false, le-ltb}
use Rattle.words.specs.Lists.{pick, Each, none as no_more, one}
use Rattle.words.specs.Machine.{Done, after, through}
use Rattle.words.proofs.Machine.{through_one}
use Rattle.words.proofs.Lists.{never}
use Rattle.packet.specs.Opcodes.{host, reader, decode_data}
use Rattle.packet.specs.Packet.{body_in, data_in, more_bit, status_allowed, unmarked, resent_equal, is_answer}
use Rattle.packet.specs.Refusals.{number_of, cause_of, nak_bytes}
use Rattle.packet.specs.Sizes.{message_size}
use Rattle.packet.specs.declared.Refusal.{Refusal}
use Rattle.packet.specs.declared.Refusal.TheVariants as refusal
use Rattle.framer.specs.Framer.{Line, hearing, deaf, Heard, packet, refused as noPacket, framer_step}
use Rattle.framer.specs.declared.Event.{Event}
use Rattle.framer.proofs.Outcomes as framer
use Rattle.framer.proofs.Outcomes.{brings}
use Rattle.hub.specs.Joiner.{none, some, Joiner, Output, added, repeated, handed, refused, answered, acknowledged, refusing, bytes_of, type_in, piece_in, other_type, join_step, adding, joined, barring}
use Rattle.hub.specs.Hub.{HubState, refuses, decode_step, packet_step, heard_step}
use Rattle.hub.specs.Promises.{told_of, answer_of, accepts, name_bytes}
use Rattle.hub.specs.declared.Told.TheVariants as told
use Rattle.hub.proofs.Control.{each_given, refusing_answers}

-- Nothing; a refusal from number `least` on and below 10, answered by a NAK; number 10; only acknowledged; added; handed out.
pub data Outcome (least : ℕ) (j : Joiner) (body : List ℕ) : Done Joiner Output → Type 0 where
  nothing : Outcome least j body (record { next = j; told = [] })
  plain : {x : Refusal} → least ≤ number_of x → number_of x < 10 → (cause_of x ≡ 0 → ⊥) → Outcome least j body (refuses j x)
  bars : least ≤ 10 → Outcome least j body (barring j)
  again : j.barred ≡ false → Outcome least j body (record { next = j; told = acknowledged repeated })
  more : j.barred ≡ false → length (bytes_of j.gathered) + length (piece_in body) ≤ message_size →
      Outcome least j body (record { next = record { barred = false; last = unmarked body; gathered = some (type_in body) (bytes_of j.gathered ++ piece_in body) }; told = acknowledged added })
  whole : j.barred ≡ false → length (bytes_of j.gathered) + length (piece_in body) ≤ message_size →
      Outcome least j body (record { next = record { barred = false; last = unmarked body; gathered = none }; told = acknowledged (handed (type_in body) (bytes_of j.gathered ++ piece_in body)) })

by_test : {least : ℕ} {j : Joiner} {body : List ℕ} {d d' : Done Joiner Output} (b : Bool) → (b ≡ true → Outcome least j body d) → (b ≡ false → Outcome least j body d') →
    Outcome least j body (pick b d d')
by_test true p q = p refl
by_test false p q = q refl

module _ (j : Joiner) (body : List ℕ) where
  join_outcome : Outcome 4 j body (join_step j body)
  unfolding join_step adding joined
  join_outcome =
      let total = length (bytes_of j.gathered) + length (piece_in body) in
      by_test j.barred (λ b. bars (omega arith))
      (λ b. by_test (resent_equal j.last body) (λ r. again b)
      (λ r. by_test (other_type j.gathered (type_in body)) (λ o. bars (omega arith))
      (λ o. by_test (ltb message_size total) (λ m. bars (omega arith))
      (λ m. by_test (eqb (more_bit (get_or body 3 0)) 0) (λ z. whole b (ltb-false message_size total m)) (λ z. more b (ltb-false message_size total m))))))

  pub packet_outcome : Outcome 4 j body (packet_step j body)
  unfolding packet_step decode_step
  packet_outcome =
      by_test (is_answer (get_or body 1 0)) (λ a. nothing)
      (λ a. by_test (eqb (get_or body 2 0) reader)
      (λ s. by_test (status_allowed (get_or body 1 0) (get_or body 3 0))
      (λ t. by_test (eqb (get_or body 1 0) decode_data)
      (λ o. by_test (eqb (length (data_in body)) 0) (λ z. plain (omega arith) (omega arith) (λ c. omega arith)) (λ z. join_outcome))
      (λ o. plain (omega arith) (omega arith) (λ c. omega arith)))
      (λ t. plain (omega arith) (omega arith) (λ c. omega arith)))
      (λ s. plain (omega arith) (omega arith) (λ c. omega arith)))

-- ---- the last accepted packet, and at most 4,096 bytes

-- A step of the joiner on a body: at most 4,096 bytes are gathered, and the last accepted packet is the body where it was accepted.
pub record Kept (j : Joiner) (body : List ℕ) (d : Done Joiner Output) : Type 0 where
  pub few : length (bytes_of d.next.gathered) ≤ message_size
  pub last_is : d.next.last ≡ pick (accepts d.told) (unmarked body) j.last

pub kept : {least : ℕ} {j : Joiner} {body : List ℕ} {d : Done Joiner Output} → length (bytes_of j.gathered) ≤ message_size → Outcome least j body d → Kept j body d
unfolding accepts told_of barring bytes_of
kept few nothing = record { few = few; last_is = refl }
kept few (plain l m c) = record { few = few; last_is = refl }
kept few (bars l) = record { few = omega arith; last_is = refl }
kept few (again b) = record { few = few; last_is = refl }
kept few (more b m) = record { few = simp length-append (omega arith); last_is = refl }
kept few (whole b m) = record { few = omega arith; last_is = refl }

-- A message that is handed out has at most 4,096 bytes.
abbrev pub Short : Output → Type 0
Short added = Unit {0}
Short repeated = Unit {0}
Short (handed code bytes) = length bytes ≤ message_size
Short (refused r) = Unit {0}
Short (answered bytes) = Unit {0}

pub short : {least : ℕ} {j : Joiner} {body : List ℕ} {d : Done Joiner Output} → Outcome least j body d → Each Short d.told
unfolding barring
short nothing = no_more
short (plain {x = x} l m c) = one tt (each_given (λ bytes. tt) (nak_bytes host x))
short (bars l) = one tt (each_given (λ bytes. tt) (nak_bytes host refusal.Barred))
short (again b) = one tt (one tt no_more)
short (more b m) = one tt (one tt no_more)
short {j = j} {body} (whole b m) = one {x = handed (type_in body) (bytes_of j.gathered ++ piece_in body)} (simp length-append (omega arith)) (one tt no_more)

-- ---- a refusal

-- What is told by name as refusal x is that refusal and its NAK, and nothing else. Number 10 drops what was gathered and bars; any other
-- leaves the joiner as it was.
pub record Refusing (least : ℕ) (j : Joiner) (x : Refusal) (d : Done Joiner Output) : Type 0 where
  pub told_is : d.told ≡ refusing x
  pub next_is : d.next ≡ pick (eqb (number_of x) 10) (record { barred = true; last = j.last; gathered = none }) j
  pub least_is : least ≤ number_of x
  pub cause : cause_of x ≡ 0 → ⊥

pub named_refused : {least : ℕ} {j : Joiner} {body : List ℕ} {d : Done Joiner Output} {x : Refusal} → Outcome least j body d → told_of d.told ≡ told.Refused x → Refusing least j x d
unfolding barring told_of
named_refused nothing q = never (cc)
named_refused {x = x} (plain {x = y} l m c) q =
    let e : y ≡ x = cc in
    rw (← e) (record { told_is = refl; next_is = simp (ne_eqb (number_of y) 10 (λ z. omega arith)); least_is = l; cause = c })
named_refused {x = x} (bars l) q = let e : refusal.Barred ≡ x = cc in rw (← e) (record { told_is = refl; next_is = refl; least_is = l; cause = λ z. omega arith })
named_refused (again b) q = never (cc)
named_refused (more b m) q = never (cc)
named_refused (whole b m) q = never (cc)

-- ---- the answer

-- What is told by name has the answer that goes with its name.
pub name_answers : {least : ℕ} {j : Joiner} {body : List ℕ} {d : Done Joiner Output} → Outcome least j body d → name_bytes (told_of d.told) ≡ answer_of d.told
unfolding barring told_of answer_of
name_answers nothing = refl
name_answers (plain {x = x} l m c) = sym (refusing_answers x)
name_answers (bars l) = sym (refusing_answers refusal.Barred)
name_answers (again b) = refl
name_answers (more b m) = refl
name_answers (whole b m) = refl

-- ---- a bar

abbrev pub NotHanded : Output → Type 0
NotHanded added = Unit {0}
NotHanded repeated = Unit {0}
NotHanded (handed code bytes) = ⊥
NotHanded (refused r) = Unit {0}
NotHanded (answered bytes) = Unit {0}

pub barred_still : {least : ℕ} {j : Joiner} {body : List ℕ} {d : Done Joiner Output} → Outcome least j body d → j.barred ≡ true → (d.next.barred ≡ true) × Each NotHanded d.told
unfolding barring
barred_still nothing q = (q, no_more)
barred_still (plain {x = x} l m c) q = (q, one tt (each_given (λ bytes. tt) (nak_bytes host x)))
barred_still (bars l) q = (refl, one tt (each_given (λ bytes. tt) (nak_bytes host refusal.Barred)))
barred_still (again b) q = never (cc)
barred_still (more b m) q = never (cc)
barred_still (whole b m) q = never (cc)

-- ---- an event

-- What the joiner makes of an event: of nothing, of a refusal of the framer, or of a packet.
pub record Happens (j : Joiner) (d : Done Joiner Output) : Type 0 where
  pub least : ℕ
  pub body : List ℕ
  pub outcome : Outcome least j body d

-- A refusal of the framer by number 1 to 3.
turned : (j : Joiner) (x : Refusal) → number_of x ≤ 3 → (cause_of x ≡ 0 → ⊥) → Happens j (through heard_step j (noPacket x ∷ []))
unfolding heard_step
turned j x h c = rw (through_one heard_step j (noPacket x)) (record { least = 0; body = []; outcome = plain {x = x} (omega arith) (omega arith) c })

happens : (j : Joiner) {l : Line} {e : Event} {d : Done Line Heard} → framer.Brings l e d → Happens j (through heard_step j d.told)
unfolding through heard_step
happens j framer.nothing = record { least = 0; body = []; outcome = nothing }
happens j framer.cut = turned j refusal.Cut (omega arith) (λ z. omega arith)
happens j framer.low = turned j refusal.Length (omega arith) (λ z. omega arith)
happens j framer.wrong = turned j refusal.Checksum (omega arith) (λ z. omega arith)
happens j (framer.whole {got} {b} f) =
    let s : List ℕ = body_in (got ++ (b ∷ [])) in
    rw (through_one heard_step j (packet s)) (record { least = 4; body = s; outcome = packet_outcome j s })

pub event_happens : (s : HubState) (e : Event) → Happens s.core (through heard_step s.core (framer_step s.line e).told)
event_happens s e = happens s.core (brings s.line e)

-- ---- the line after a refusal

line_refused : (j : Joiner) (x : Refusal) {l : Line} {e : Event} {d : Done Line Heard} → framer.Brings l e d → (through heard_step j d.told).told ≡ refusing x →
    d.next ≡ pick (ltb (number_of x) 3) deaf (hearing [])
unfolding through after heard_step told_of
line_refused j x framer.nothing q = never (cc)
line_refused j x framer.cut q = let e : refusal.Cut ≡ x = cc in rw (← e) refl
line_refused j x framer.low q = let e : refusal.Length ≡ x = cc in rw (← e) refl
line_refused j x framer.wrong q = let e : refusal.Checksum ≡ x = cc in rw (← e) refl
line_refused j x (framer.whole {got} {b} f) q =
    let s : List ℕ = body_in (got ++ (b ∷ [])) in
    let k = named_refused (packet_outcome j s) (ap told_of (sym (append-nil (packet_step j s).told) ∙ q)) in
    let m = k.least_is in
    simp (le-ltb (number_of x) 3 (omega arith))

pub event_line : (s : HubState) (e : Event) {x : Refusal} → (through heard_step s.core (framer_step s.line e).told).told ≡ refusing x →
    (framer_step s.line e).next ≡ pick (ltb (number_of x) 3) deaf (hearing [])
event_line s e {x} q = line_refused s.core x (brings s.line e) q
