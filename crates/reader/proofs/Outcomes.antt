-- What can come of an event at the reader, each outcome with what it needs: the theorems go by these cases. Assumes nothing.
use Prim.Native.Nat.{ℕ, ◌≤◌}
use mathlib.Core.Path.{◌≡◌, refl}
use mathlib.Core.Bool.{Bool, true, false}
use mathlib.Core.List.{List, [], ◌∷◌, ◌++◌}
use native.Mathlib.Omega.{arith}
use lib.Dec.{eqb}
use lib.ListN.{get_or}
use Rattle.words.specs.Lists.{pick}
use Rattle.words.specs.Machine.{Done, through, given}
use Rattle.words.proofs.Machine.{through_one}
use Rattle.packet.specs.Opcodes.{host}
use Rattle.packet.specs.Packet.{body_in, data_in, status_allowed, resent_equal, is_answer}
use Rattle.packet.specs.Refusals.{number_of, cause_of}
use Rattle.packet.specs.declared.Refusal.{Refusal}
use Rattle.packet.specs.declared.Refusal.TheVariants as refusal
use Rattle.framer.specs.Framer.{Line, Heard, packet, refused as noPacket, framer_step}
use Rattle.framer.specs.declared.Event.{Event}
use Rattle.framer.proofs.Outcomes as framer
use Rattle.framer.proofs.Outcomes.{brings}
use Rattle.sender.specs.Sender.{sender_step, heed_of}
use Rattle.sender.specs.declared.Heard.{Heard as Heeded}
use Rattle.commands.specs.Commands.{DeviceState, Acted, acted, named_by, length_allowed}
use Rattle.commands.specs.declared.Command.{Command}
use Rattle.std.proofs.Common.{Option, Some, None}
use Rattle.commands.proofs.Outcomes.{Does, denies, keeps, resets, sets, does}
use Rattle.reader.specs.Reader.{CoreState, ReaderState, Output, repeated, answered, refuses, no_packet_step, acts, command_step, known_step, named_step, judged_step, sender_hears, packet_step, heard_step}

-- ---- a packet

-- CMD_ACK or CMD_NAK goes to the sender; a refusal by number 4 to 9 changes nothing; a resent equal is answered again; a command is acted on.
pub data Outcome (c : CoreState) (body : List ℕ) : Done CoreState Output → Type 0 where
  heeds : (h : Heeded) → Outcome c body (sender_hears c (sender_step c.sender h))
  turns : {r : Refusal} → 4 ≤ number_of r → (cause_of r ≡ 0 → ⊥) → Outcome c body (refuses c r)
  repeats : resent_equal c.last body ≡ true → Outcome c body (record { next = c; told = repeated ∷ given answered c.last_answer })
  acts_on : (k : Command) {next : DeviceState} {rows : List (List ℕ)} → Does c.device (acted next rows) → Outcome c body (acts c k body (acted next rows))

by_test : {c : CoreState} {body : List ℕ} {d d' : Done CoreState Output} (b : Bool) → (b ≡ true → Outcome c body d) → (b ≡ false → Outcome c body d') → Outcome c body (pick b d d')
by_test true h k = h refl
by_test false h k = k refl

module _ (c : CoreState) (body : List ℕ) where
  acted_outcome : (k : Command) {a : Acted} → Does c.device a → Outcome c body (acts c k body a)
  unfolding acts
  acted_outcome k (denies h n) = turns h n
  acted_outcome k (keeps {rows} e) = acts_on k {rows = rows} (keeps e)
  acted_outcome k (resets {rows} e) = acts_on k {rows = rows} (resets e)
  acted_outcome k (sets {rows} f r e) = acts_on k {rows = rows} (sets f r e)

  turned : (r : Refusal) → 4 ≤ number_of r → (cause_of r ≡ 0 → ⊥) → Outcome c body (refuses c r)
  turned r h n = turns h n

  named_outcome : (n : Option Command) → Outcome c body (named_step n c body)
  unfolding named_step known_step command_step
  named_outcome None = turned refusal.Opcode (omega arith) (λ z. omega arith)
  named_outcome (Some k) =
      by_test (length_allowed k (data_in body))
      (λ l. by_test (resent_equal c.last body) repeats (λ e. acted_outcome k (does c.device k (get_or body 3 0) (data_in body))))
      (λ l. turned refusal.Data (omega arith) (λ z. omega arith))

  pub packet_outcome : Outcome c body (packet_step c body)
  unfolding packet_step judged_step
  packet_outcome =
      by_test (is_answer (get_or body 1 0)) (λ a. heeds (heed_of host (get_or body 1 0) (get_or body 2 0) (get_or body 3 0) (data_in body)))
      (λ a. by_test (eqb (get_or body 2 0) host)
      (λ s. by_test (status_allowed (get_or body 1 0) (get_or body 3 0)) (λ t. named_outcome (named_by (get_or body 1 0)))
      (λ t. turned refusal.Status (omega arith) (λ z. omega arith)))
      (λ s. turned refusal.Source (omega arith) (λ z. omega arith)))

-- ---- an event

-- What the core makes of an event: nothing; a refusal of the framer by number 1 to 3; or a packet.
pub data Happens (c : CoreState) : Done CoreState Output → Type 0 where
  nothing : Happens c (record { next = c; told = [] })
  no_packet : (r : Refusal) → number_of r ≤ 3 → (cause_of r ≡ 0 → ⊥) → Happens c (no_packet_step c r)
  packet_heard : {d : Done CoreState Output} (body : List ℕ) → Outcome c body d → Happens c d

one_heard : (c : CoreState) (h : Heard) {d : Done CoreState Output} → heard_step c h ≡ d → Happens c d → Happens c (through heard_step c (h ∷ []))
one_heard c h e k = rw (through_one heard_step c h, e) k

happens : (c : CoreState) {l : Line} {e : Event} {d : Done Line Heard} → framer.Brings l e d → Happens c (through heard_step c d.told)
unfolding through heard_step
happens c framer.nothing = nothing
happens c framer.cut = one_heard c (noPacket refusal.Cut) refl (no_packet refusal.Cut (omega arith) (λ z. omega arith))
happens c framer.low = one_heard c (noPacket refusal.Length) refl (no_packet refusal.Length (omega arith) (λ z. omega arith))
happens c framer.wrong = one_heard c (noPacket refusal.Checksum) refl (no_packet refusal.Checksum (omega arith) (λ z. omega arith))
happens c (framer.whole {got} {b} f) =
    let s : List ℕ = body_in (got ++ (b ∷ [])) in
    one_heard c (packet s) refl (packet_heard s (packet_outcome c s))

pub event_happens : (s : ReaderState) (e : Event) → Happens s.core (through heard_step s.core (framer_step s.line e).told)
event_happens s e = happens s.core (brings s.line e)
