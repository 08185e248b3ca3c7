-- Demand 1 at the framer: what a refused event leaves, of the control value and of every byte of the line buffer.
use Rattle.std.specs.Prelude.{ℕ, List, [], ◌≡◌, eqb, ltb, length}
use Rattle.words.specs.Lists.{pick}
use Rattle.packet.specs.Sizes.{packet_size}
use Rattle.packet.specs.Refusals.{number_of}
use Rattle.packet.specs.declared.Refusal.{Refusal}
use Rattle.packet.specs.declared.Refusal.TheVariants.{Room}
use Rattle.framer.specs.Framer.{hearing, deaf}
use Rattle.framer.specs.Promises.{control_of}
use Rattle.framer.specs.Untouched.{AtMostTheByte}
use Rattle.framer.specs.declared.Event.{Event}
use Rattle.framer.specs.declared.Framer.{Framer}
use Rattle.framer.specs.declared.Framed.{Framed}

-- Number 13 just where the line buffer is too small: then nothing at all has changed. Any other number: the line buffer has at most the byte
-- that came, the packet begun is ended, and 1 and 2 make the framer deaf.
pub record FramerRefuses (x : Refusal) (e : Event) (f : Framer) (r : Framed) (line line' : List ℕ) : Type 0 where
  pub number_13 : ltb (length line) packet_size ≡ eqb (number_of x) 13
  pub line_kept : AtMostTheByte 0 line line' e
  pub control_is : r.framer ≡ pick (eqb (number_of x) 13) f (control_of (pick (ltb (number_of x) 3) deaf (hearing [])))
  pub not_taken : x ≡ Room → (r.framer ≡ f) × (line' ≡ line)
