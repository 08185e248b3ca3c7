-- Demand 1 at the hub: what a refused event leaves, of the control value and of every lent byte.
use Rattle.std.specs.Prelude.{ℕ, List, ◌≡◌, eqb, length}
use Rattle.words.specs.Lists.{pick, over}
use Rattle.packet.specs.Opcodes.{host}
use Rattle.packet.specs.Refusals.{number_of, nak_bytes}
use Rattle.packet.specs.declared.Refusal.{Refusal}
use Rattle.packet.specs.declared.Refusal.TheVariants.{Room}
use Rattle.framer.specs.Untouched.{LineKept}
use Rattle.framer.specs.declared.Event.{Event}
use Rattle.hub.specs.Hub.{cleared, after_refusal}
use Rattle.hub.specs.Promises.{state_of, too_small}
use Rattle.hub.specs.declared.Hub.{Hub}
use Rattle.hub.specs.declared.Taken.{Taken}

-- Number 13 just where a room is too small: then the event is not taken, and nothing at all has changed. Any other number: no message is
-- handed out, what is gathered stands as it stood, the line buffer has at most the byte that came, the answer room has the NAK of the
-- listed cause at its front, and of the state only what the rules name has changed.
pub record HubRefuses (x : Refusal) (e : Event) (hub : Hub) (r : Taken) (line line' gather gather' answer answer' message message' : List ℕ) : Type 0 where
  pub number_13 : too_small answer message ≡ eqb (number_of x) 13
  pub no_message : message' ≡ message
  pub gather_same : gather' ≡ gather
  pub line_kept : LineKept hub.line e line line'
  pub answer_is : answer' ≡ over (nak_bytes host x) answer
  pub count_is : r.answer ≡ length (nak_bytes host x)
  pub state_is : state_of r.hub line' gather' ≡ pick (eqb (number_of x) 13) (state_of hub line gather) (cleared e (after_refusal x (state_of hub line gather)))
  pub not_taken : x ≡ Room → (r.hub ≡ hub) × (line' ≡ line) × (answer' ≡ answer)
