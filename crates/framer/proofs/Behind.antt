-- A run of a machine behind a framer is the framer's run, and then the machine's run over what the framer told. Assumes nothing.
use Prim.Native.Nat.{ℕ}
use mathlib.Core.Path.{◌≡◌, refl, ◌∙◌}
use mathlib.Core.List.{List, [], ◌∷◌, map}
use Rattle.words.specs.Machine.{Done, after, through}
use Rattle.words.proofs.Machine.{through_append, through_one}
use Rattle.packet.specs.Packet.{seal}
use Rattle.packet.proofs.Theorems.{Body}
use Rattle.framer.specs.Framer.{hearing, Heard, packet, framer_step}
use Rattle.framer.specs.declared.Event.TheVariants.{Byte}
use Rattle.framer.proofs.Theorems.{packet_found}
use Rattle.framer.specs.Behind.{Behind, framed}
use Rattle.framer.specs.declared.Event.{Event}

pub framed_run : {S O : Type 0} (step : S → Heard → Done S O) (b : Behind S) (es : List Event) →
    through (framed step) b es
    ≡ record {
      next = record { line = (through framer_step b.line es).next; core = (through step b.core (through framer_step b.line es).told).next };
      told = (through step b.core (through framer_step b.line es).told).told;
    }
unfolding through after framed
framed_run step b [] = refl
framed_run step b (e ∷ es) =
    rw (framed_run step (framed step b e).next es, through_append step b.core (framer_step b.line e).told (through framer_step (framer_step b.line e).next es).told)
    refl

-- So the bytes of a sealed body are one step of the machine, on exactly that packet.
pub framed_sealed : {S O : Type 0} (step : S → Heard → Done S O) (core : S) (b : List ℕ) → Body b →
    through (framed step) (record { line = hearing []; core = core }) (map Byte (seal b))
    ≡ record { next = record { line = hearing []; core = (step core (packet b)).next }; told = (step core (packet b)).told }
framed_sealed step core b k =
    framed_run step (record { line = hearing []; core = core }) (map Byte (seal b)) ∙ rw (packet_found b k, through_one step core (packet b)) refl
