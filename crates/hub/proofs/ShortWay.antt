-- Where the framer tells nothing of an event, the short way that C and Rust callers take has only the framer's part of the control value and the
-- line buffer to write: `hub::hear`, with rooms of full size, leaves everything else as it was. Assumes nothing.
use Prim.Native.Nat.{ℕ}
use mathlib.Core.Path.{◌≡◌, refl, ◌∙◌}
use mathlib.Core.Bool.{true, false}
use mathlib.Core.List.{List}
use Rattle.words.specs.Machine.{through}
use Rattle.words.proofs.Lists.{over_nil}
use Rattle.framer.specs.Framer.{silent, framer_step}
use Rattle.framer.specs.Behind.{framed}
use Rattle.framer.specs.Halves.{line_in, listened_of, buffer_after, tells_nothing}
use Rattle.framer.proofs.ShortWay.{silent_told}
use Rattle.framer.specs.declared.Event.{Event}
use Rattle.framer.specs.declared.Event.TheVariants.{Byte, CharacterGap, MessageGap}
use Rattle.hub.specs.Hub.{hub_step}
use Rattle.hub.specs.Promises.{told_of, answer_of, message_of, sound_of, joiner_of, state_of, accepts, control_after, cleared_control, too_small, Hears}
use Rattle.hub.specs.declared.Hub.{Hub}
use Rattle.hub.specs.declared.Taken.{Taken}
use Rattle.hub.specs.declared.Told.TheVariants as told
use Rattle.hub.proofs.Joining.{gathered_over}

-- Only a message gap clears the control value.
not_cleared : (e : Event) (hub : Hub) → (e ≡ MessageGap → ⊥) → cleared_control e hub ≡ hub
not_cleared (Byte b) hub h = refl
not_cleared CharacterGap hub h = refl
not_cleared MessageGap hub h = absurd (h refl)

-- Nothing told, no answer, this control value, these bytes in the line buffer, and every other lent byte as it was.
pub silent_hears : {hub : Hub} {line gather answer message line' gather' answer' message' : List ℕ} {e : Event} {r : Taken} →
    Hears hub line gather answer message e r line' gather' answer' message' →
    too_small answer message ≡ false →
    tells_nothing hub.line line e ≡ true →
    (e ≡ MessageGap → ⊥) →
    (r ≡ record { hub = record { line = (listened_of hub.line line e).halves; gathering = hub.gathering }; told = told.Nothing; answer = 0 })
    × (line' ≡ buffer_after hub.line line e)
    × (gather' ≡ gather)
    × (answer' ≡ answer)
    × (message' ≡ message)
unfolding hub_step framed state_of control_after tells_nothing silent through accepts told_of answer_of message_of joiner_of
silent_hears {hub} {line} {gather} {answer} {message} {e = e} k room q gap =
    let t = silent_told (framer_step (line_in hub.line line) e).told q in
    let next : Hub = record { line = (listened_of hub.line line e).halves; gathering = hub.gathering } in (
      k.is ∙ simp room (rw (t, not_cleared e next gap) refl),
      k.line_is ∙ simp room,
      k.gather_is ∙ simp room (rw t (gathered_over (sound_of hub.gathering) gather)),
      k.answer_is ∙ simp room (rw t (over_nil answer)),
      k.message_is ∙ simp room (rw t (over_nil message)),
    )
