-- Where the framer tells nothing of an event, the short way that C and Rust callers take has only the framer's part of the control value and the
-- line buffer to write: `reader::hear`, with rooms of full size, leaves everything else as it was. Assumes nothing.
use Prim.Native.Nat.{ℕ}
use mathlib.Core.Path.{◌≡◌, refl, ◌∙◌}
use mathlib.Core.Bool.{true, false}
use mathlib.Core.List.{List}
use Rattle.words.proofs.Lists.{over_nil, over_take}
use Rattle.words.specs.Machine.{through}
use Rattle.framer.specs.Behind.{framed}
use Rattle.framer.specs.Framer.{silent, framer_step}
use Rattle.framer.specs.Halves.{line_in, listened_of, buffer_after, tells_nothing}
use Rattle.framer.proofs.ShortWay.{silent_told}
use Rattle.framer.specs.declared.Event.{Event}
use Rattle.sender.specs.Promises as sending
use Rattle.reader.specs.Reader.{reader_step}
use Rattle.reader.specs.Promises.{told_of, answer_of, sent_of, last_answer_of, core_of, state_of, accepts, too_small, sender_through, control_after, quiet_of, Hears}
use Rattle.reader.specs.declared.Reader.{Reader}
use Rattle.reader.specs.declared.Taken.{Taken}

-- Nothing told, no answer, nothing of the sender, this control value, these bytes in the line buffer, and every other lent byte as it was.
pub silent_hears : {reader : Reader} {line answers message answer copy : List ℕ} {e : Event} {r : Taken} {line' answers' answer' copy' : List ℕ} →
    Hears reader line answers message answer copy e r line' answers' answer' copy' →
    too_small answer copy ≡ false →
    tells_nothing reader.line line e ≡ true →
    (r ≡ quiet_of reader (listened_of reader.line line e).halves)
    × (line' ≡ buffer_after reader.line line e)
    × (answers' ≡ answers)
    × (answer' ≡ answer)
    × (copy' ≡ copy)
unfolding tells_nothing silent reader_step framed through state_of core_of control_after sender_through accepts told_of answer_of sent_of sending.name_of sending.copy_of
silent_hears {reader} {line} {answers} {answer = answer} {copy = copy} {e = e} k room q =
    let t = silent_told (framer_step (line_in reader.line line) e).told q in (
      k.is ∙ simp room (rw t refl),
      k.line_is ∙ simp room,
      k.answers_is ∙ simp room (rw t (over_take (last_answer_of reader.last_answer) answers)),
      k.answer_is ∙ simp room (rw t (over_nil answer)),
      k.copy_is ∙ simp room (rw t (over_nil copy)),
    )
