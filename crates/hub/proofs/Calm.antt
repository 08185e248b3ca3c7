-- Events without a message gap: there the hub is no more than its joiner behind the framer. Assumes nothing.
use Prim.Native.Nat.{ℕ}
use mathlib.Core.Path.{◌≡◌, refl, ap}
use mathlib.Core.List.{List, [], ◌∷◌, ◌++◌, map}
use Rattle.words.specs.Machine.{after, through}
use Rattle.framer.specs.Framer.{packet}
use Rattle.framer.specs.Behind.{framed}
use Rattle.framer.specs.declared.Event.{Event}
use Rattle.framer.specs.declared.Event.TheVariants.{Byte, CharacterGap}
use Rattle.hub.specs.Joiner.{Joiner}
use Rattle.hub.specs.Hub.{HubState, packet_step, heard_step, cleared, hub_step}

-- Bytes and character gaps only.
pub data Calm : List Event → Type 0 where
  ends : Calm []
  byte : {b : ℕ} {es : List Event} → Calm es → Calm (Byte b ∷ es)
  gap : {es : List Event} → Calm es → Calm (CharacterGap ∷ es)

pub calm_append : {es fs : List Event} → Calm es → Calm fs → Calm (es ++ fs)
calm_append ends d = d
calm_append (byte c) d = byte (calm_append c d)
calm_append (gap c) d = gap (calm_append c d)

pub calm_bytes : (s : List ℕ) → Calm (map Byte s)
calm_bytes [] = ends
calm_bytes (x ∷ s) = byte (calm_bytes s)

pub calm_run : {es : List Event} (hub : HubState) → Calm es → through hub_step hub es ≡ through (framed heard_step) hub es
unfolding through hub_step cleared
calm_run hub ends = refl
calm_run hub (byte {b} c) = ap (after (framed heard_step hub (Byte b)).told) (calm_run (framed heard_step hub (Byte b)).next c)
calm_run hub (gap c) = ap (after (framed heard_step hub CharacterGap).told) (calm_run (framed heard_step hub CharacterGap).next c)

-- Behind the framer a packet is a packet's step.
pub heard_packets : (j : Joiner) (ps : List (List ℕ)) → through heard_step j (map packet ps) ≡ through packet_step j ps
unfolding through heard_step
heard_packets j [] = refl
heard_packets j (p ∷ ps) = ap (after (packet_step j p).told) (heard_packets (packet_step j p).next ps)
