-- A machine behind a framer: it takes what the framer tells, packets and refusals, one after the other.
use Rattle.words.specs.Machine.{Done, through}
use Rattle.framer.specs.Framer.{Line, Heard, framer_step}
use Rattle.framer.specs.declared.Event.{Event}

pub record Behind (S : Type 0) : Type 0 where
  pub line : Line
  pub core : S

unfoldable pub framed : {S O : Type 0} → (S → Heard → Done S O) → Behind S → Event → Done (Behind S) O
framed step b e =
    record {
      next = record { line = (framer_step b.line e).next; core = (through step b.core (framer_step b.line e).told).next };
      told = (through step b.core (framer_step b.line e).told).told;
    }
