-- What can happen to a reader besides the reading of a saved set, for the theorems over every run: an event, a start, a time-out, power-up.
use Rattle.std.specs.Prelude.{ℕ, List, [], ◌∷◌}
use Rattle.framer.specs.declared.Event.{Event}
use Rattle.reader.specs.Reader.{ReaderState, reader_step, start_message, time_out, power_up_reader}

pub data Moment : Type 0 where
  hears : Event → Moment
  starts : ℕ → List ℕ → Moment
  times_out : Moment
  powers_up : Moment

unfoldable pub after_one : ReaderState → Moment → ReaderState
after_one r (hears e) = (reader_step r e).next
after_one r (starts code m) = (start_message r code m).next
after_one r times_out = (time_out r).next
after_one r powers_up = power_up_reader r

unfoldable pub after_all : ReaderState → List Moment → ReaderState
after_all r [] = r
after_all r (m ∷ ms) = after_all (after_one r m) ms
