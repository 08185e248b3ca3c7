-- What the calls without an event leave, said of whole states: a start and a time-out are steps of the whole end, and power-up is the
-- definition's. Assumes nothing.
use Prim.Native.Nat.{ℕ}
use mathlib.Core.Path.{◌≡◌, refl}
use mathlib.Core.Bool.{false}
use mathlib.Core.List.{List}
use lib.Dec.{ltb}
use lib.ListN.{length}
use Rattle.packet.specs.Packet.{unmarked}
use Rattle.packet.specs.Sizes.{packet_size}
use Rattle.framer.specs.Halves.{line_in, kept_in, half_of, last_of, place_of}
use Rattle.framer.specs.Promises.{line_of, begun_of}
use Rattle.sender.specs.Promises as sending
use Rattle.table.specs.Table.{power_up}
use Rattle.table.specs.Promises.{values_of}
use Rattle.table.specs.declared.Table.{Table}
use Rattle.reader.specs.Reader.{switched_on, with_core, sender_hears, start_message, time_out, power_up_reader}
use Rattle.reader.specs.Promises.{last_answer_of, core_of, state_of, SwitchedOn, PowersUp, Starts, TimesOut}
use Rattle.reader.specs.declared.Reader.{Reader}
use Rattle.reader.specs.declared.Started.{Started}

-- Whatever stands in the buffers, a reader switched on has nothing begun, nothing out and no packet accepted.
pub switched_on_state : {t : Table} {r : Reader} (line answers message : List ℕ) → SwitchedOn t r → state_of r line answers message ≡ switched_on (power_up (values_of t))
unfolding state_of core_of last_answer_of line_in kept_in half_of last_of place_of line_of begun_of unmarked sending.state_of sending.out_of sending.sound_of sending.made_of sending.placed_of sending.sized_of sending.last_of power_up
switched_on_state line answers message k = rw k.is refl

pub powered_up_state : {reader r : Reader} (line answers message line' answers' message' : List ℕ) → PowersUp reader r →
    state_of r line' answers' message' ≡ power_up_reader (state_of reader line answers message)
unfolding power_up_reader state_of core_of
powered_up_state {reader} line answers message line' answers' message' k =
    switched_on_state {t = reader.device.table} line' answers' message' (record { is = k.is })

-- With room enough, a start and a time-out are those of the whole end.
pub started_state : {reader : Reader} {message copy : List ℕ} {code : ℕ} {bytes : List ℕ} {r : Started} {message' copy' : List ℕ} (line answers : List ℕ) →
    Starts reader message copy code bytes r message' copy' → ltb (length copy) packet_size ≡ false →
    state_of r.reader line answers message' ≡ (start_message (state_of reader line answers message) code bytes).next
unfolding state_of core_of start_message with_core sender_hears
started_state line answers k h = let e = simp h at k.starts.next in rw k.is (rw e refl)

pub timed_out_state : {reader : Reader} {message copy : List ℕ} {r : Started} {copy' : List ℕ} (line answers : List ℕ) → TimesOut reader message copy r copy' →
    ltb (length copy) packet_size ≡ false → state_of r.reader line answers message ≡ (time_out (state_of reader line answers message)).next
unfolding state_of core_of time_out with_core sender_hears
timed_out_state line answers k h = let e = simp h at k.hears.next in rw k.is (rw e refl)
