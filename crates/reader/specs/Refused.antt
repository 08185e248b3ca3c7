-- Demand 1 at the reader: what a refused event leaves, of the control value and of every lent byte. The message buffer is only read. A
-- refused start or time-out is the sender's: sender/specs/Refused.antt.
use Rattle.std.specs.Prelude.{ℕ, List, [], ◌≡◌, eqb, ltb, length}
use Rattle.words.specs.Lists.{pick, over}
use Rattle.packet.specs.Refusals.{number_of}
use Rattle.packet.specs.declared.Refusal.{Refusal}
use Rattle.packet.specs.declared.Refusal.TheVariants.{Room}
use Rattle.framer.specs.Framer.{hearing, deaf}
use Rattle.framer.specs.Untouched.{LineKept}
use Rattle.framer.specs.declared.Event.{Event}
use Rattle.sender.specs.declared.Outcome.TheVariants.{Nothing}
use Rattle.reader.specs.Reader.{ReaderState, refusal_answer}
use Rattle.reader.specs.Promises.{state_of, too_small}
use Rattle.reader.specs.declared.Reader.{Reader}
use Rattle.reader.specs.declared.Taken.{Taken}

-- A refusal other than 13 ends the packet begun, and 1 and 2 make the framer deaf; nothing else of the state changes.
abbrev pub after_refusal : Refusal → ReaderState → ReaderState
after_refusal r s = pick (eqb (number_of r) 13) s (record { line = pick (ltb (number_of r) 3) deaf (hearing []); core = s.core })

-- Number 13 just where a room is too small: then the event is not taken, and nothing at all has changed. Any other number: device (the
-- parameters with it) and sender are as they were, the sender brings nothing, no copy is written, the kept answer stands as it stood, the
-- line buffer has at most the byte that came, and the answer room has the listed answer at its front.
pub record ReaderRefuses (x : Refusal) (e : Event) (reader : Reader) (r : Taken) (line line' answers answers' message answer answer' copy copy' : List ℕ) : Type 0 where
  pub number_13 : too_small answer copy ≡ eqb (number_of x) 13
  pub device_same : r.reader.device ≡ reader.device
  pub sender_same : r.reader.sender ≡ reader.sender
  pub nothing_sent : r.outcome ≡ Nothing
  pub no_copy : copy' ≡ copy
  pub answers_same : answers' ≡ answers
  pub line_kept : LineKept reader.line e line line'
  pub answer_is : answer' ≡ over (refusal_answer (state_of reader line answers message).core x) answer
  pub count_is : r.answer ≡ length (refusal_answer (state_of reader line answers message).core x)
  pub state_is : state_of r.reader line' answers' message ≡ after_refusal x (state_of reader line answers message)
  pub not_taken : x ≡ Room → (r.reader ≡ reader) × (line' ≡ line) × (answer' ≡ answer)
