-- Control values as bytes. A number takes eight bytes, low byte first; a flag one, 1 where it holds and 0 where not. Any other byte
-- reads as a flag that does not hold, so any bytes are some control value.
use Rattle.std.specs.Prelude.{ℕ, ◌+◌, ◌*◌, ◌<◌, Bool, not, List, [], ◌∷◌, ◌++◌, map, ◌≡◌, eqb, length, get_or, take, drop}
use Rattle.std.specs.Int.{w64, from_bool, from_le_bytes, to_le_bytes}
use Rattle.words.specs.Lists.{over, same_bytes}
use Rattle.framer.specs.declared.Framer.{Framer}
use Rattle.framer.specs.declared.Halves.{Halves}
use Rattle.hub.specs.declared.Gathering.{Gathering}
use Rattle.hub.specs.declared.Hub.{Hub}
use Rattle.sender.specs.declared.Sender.{Sender}
use Rattle.table.specs.Rows.{parameter_count}
use Rattle.table.specs.declared.Table.{Table}
use Rattle.commands.specs.declared.Device.{Device}
use Rattle.reader.specs.declared.Reader.{Reader}

-- ---- sizes, part by part. A part begins where those before it end, so a size is also a place.

abbrev pub number_size : ℕ
number_size = 8

abbrev pub framer_control_size : ℕ
framer_control_size = number_size + 1

-- The front of a hub's and of a reader's control value: its framer, and which half of the line receives.
abbrev pub going_size : ℕ
going_size = framer_control_size + 1

abbrev pub halves_size : ℕ
halves_size = going_size + number_size

-- Of what is gathered: barred, begun and the code, before the count.
abbrev pub gathering_front : ℕ
gathering_front = 3

abbrev pub gathering_size : ℕ
gathering_size = gathering_front + number_size

abbrev pub hub_control_size : ℕ
hub_control_size = halves_size + gathering_size

-- Of a sender: three flags and the code, before the five numbers.
abbrev pub sender_front : ℕ
sender_front = 4

abbrev pub sender_at : ℕ
sender_at = sender_front + number_size

abbrev pub sender_piece : ℕ
sender_piece = sender_at + number_size

abbrev pub sender_resends : ℕ
sender_resends = sender_piece + number_size

abbrev pub sender_copies : ℕ
sender_copies = sender_resends + number_size

abbrev pub sender_control_size : ℕ
sender_control_size = sender_copies + number_size

abbrev pub values_size : ℕ
values_size = 2 * parameter_count

abbrev pub table_size : ℕ
table_size = values_size + parameter_count

abbrev pub device_size : ℕ
device_size = table_size + 4

-- Of a reader: its line and how long the last answer was, before the device.
abbrev pub reader_front : ℕ
reader_front = halves_size + number_size

abbrev pub reader_sender : ℕ
reader_sender = reader_front + device_size

abbrev pub reader_control_size : ℕ
reader_control_size = reader_sender + sender_control_size

-- ---- numbers and flags

unfoldable pub number_in : List ℕ → ℕ
number_in s = from_le_bytes w64 s

unfoldable pub number_bytes : ℕ → List ℕ
number_bytes n = to_le_bytes w64 n

-- What the code's numbers keep to.
abbrev pub Small : ℕ → Type 0
Small n = n < 18446744073709551616

abbrev pub flag_in : List ℕ → ℕ → Bool
flag_in s at = eqb (get_or s at 0) 1

abbrev pub flag_byte : Bool → ℕ
flag_byte b = from_bool b

-- ---- the framer: 0 to 7 count, 8 deaf; over two halves: 9 second, 10 to 17 last

unfoldable pub framer_in : List ℕ → Framer
framer_in s = record { count = number_in s; deaf = flag_in s number_size }

unfoldable pub framer_bytes : Framer → List ℕ
framer_bytes f = number_bytes f.count ++ (flag_byte f.deaf ∷ [])

unfoldable pub halves_in : List ℕ → Halves
halves_in s = record { framer = framer_in s; second = flag_in s framer_control_size; last = number_in (drop going_size s) }

unfoldable pub halves_bytes : Halves → List ℕ
halves_bytes h = framer_bytes h.framer ++ (flag_byte h.second ∷ number_bytes h.last)

-- ---- the hub: 0 to 17 its line, 18 barred, 19 begun, 20 code, 21 to 28 count

unfoldable pub gathering_in : List ℕ → Gathering
gathering_in s = record { barred = flag_in s 0; begun = flag_in s 1; code = get_or s 2 0; count = number_in (drop gathering_front s) }

unfoldable pub gathering_bytes : Gathering → List ℕ
gathering_bytes g = flag_byte g.barred ∷ flag_byte g.begun ∷ g.code ∷ number_bytes g.count

unfoldable pub hub_in : List ℕ → Hub
hub_in s = record { line = halves_in s; gathering = gathering_in (drop halves_size s) }

unfoldable pub hub_bytes : Hub → List ℕ
hub_bytes h = halves_bytes h.line ++ gathering_bytes h.gathering

-- ---- the sender: 0 out, 1 code, 2 failed, 3 delivered, 4 to 11 length, 12 to 19 at, 20 to 27 size, 28 to 35 resends, 36 to 43 copies

unfoldable pub sender_in : List ℕ → Sender
sender_in s =
    record {
      out = flag_in s 0;
      code = get_or s 1 0;
      length = number_in (drop sender_front s);
      at = number_in (drop sender_at s);
      size = number_in (drop sender_piece s);
      resends = number_in (drop sender_resends s);
      copies = number_in (drop sender_copies s);
      failed = flag_in s 2;
      delivered = flag_in s 3;
    }

unfoldable pub sender_bytes : Sender → List ℕ
sender_bytes s =
    flag_byte s.out
    ∷ s.code
    ∷ flag_byte s.failed
    ∷ flag_byte s.delivered
    ∷ ((number_bytes s.length ++ number_bytes s.at) ++ ((number_bytes s.size ++ number_bytes s.resends) ++ number_bytes s.copies))

-- ---- the reader: 0 to 17 its line, 18 to 25 how long the last answer was, 26 to 34 present values, 35 to 43 permanent values, 44 to 52 which are locked,
-- 53 scanning, 54 session, 55 aim, 56 LED, 57 to 100 its sender

abbrev pub flags_in : List ℕ → List Bool
flags_in s = map (λ b. eqb b 1) s

abbrev pub flag_bytes : List Bool → List ℕ
flag_bytes bs = map flag_byte bs

unfoldable pub table_in : List ℕ → Table
table_in s =
    record {
      present = take parameter_count s;
      permanent = take parameter_count (drop parameter_count s);
      locked = flags_in (take parameter_count (drop values_size s));
    }

unfoldable pub table_bytes : Table → List ℕ
table_bytes t = t.present ++ (t.permanent ++ flag_bytes t.locked)

unfoldable pub device_in : List ℕ → Device
device_in s =
    record {
      table = table_in s;
      switches =
          record {
            scanning = flag_in s table_size;
            session = flag_in s (table_size + 1);
            aim = flag_in s (table_size + 2);
            led = flag_in s (table_size + 3);
          };
    }

-- What is switched on, as numbers: scanning, session, aim, LED.
abbrev pub switch_values : Device → List ℕ
switch_values d = flag_byte d.switches.scanning ∷ flag_byte d.switches.session ∷ flag_byte d.switches.aim ∷ flag_byte d.switches.led ∷ []

unfoldable pub device_bytes : Device → List ℕ
device_bytes d = table_bytes d.table ++ switch_values d

unfoldable pub reader_in : List ℕ → Reader
reader_in s = record { line = halves_in s; last_answer = number_in (drop halves_size s); device = device_in (drop reader_front s); sender = sender_in (drop reader_sender s) }

unfoldable pub reader_bytes : Reader → List ℕ
reader_bytes r = halves_bytes r.line ++ (number_bytes r.last_answer ++ (device_bytes r.device ++ sender_bytes r.sender))

-- ---- control values whose numbers and arrays the code's types can hold

pub record SmallHalves (h : Halves) : Type 0 where
  pub count : Small h.framer.count
  pub last : Small h.last

pub record SmallHub (h : Hub) : Type 0 where
  pub line : SmallHalves h.line
  pub count : Small h.gathering.count

pub record SmallSender (s : Sender) : Type 0 where
  pub length : Small s.length
  pub at : Small s.at
  pub size : Small s.size
  pub resends : Small s.resends
  pub copies : Small s.copies

pub record SizedTable (t : Table) : Type 0 where
  pub present : length t.present ≡ parameter_count
  pub permanent : length t.permanent ≡ parameter_count
  pub locked : length t.locked ≡ parameter_count

pub record SmallReader (r : Reader) : Type 0 where
  pub line : SmallHalves r.line
  pub last_answer : Small r.last_answer
  pub table : SizedTable r.device.table
  pub sender : SmallSender r.sender

-- ---- promises

-- The first bytes of some bytes.
pub record PartOf (n : ℕ) (s r : List ℕ) : Type 0 where
  pub is : r ≡ take n s

pub record NumberIn (s : List ℕ) (r : ℕ) : Type 0 where
  pub is : r ≡ number_in s

pub record PutsNumber (n : ℕ) (room room' : List ℕ) : Type 0 where
  pub is : room' ≡ over (number_bytes n) room
  pub small : Small n

pub record FramerIn (s : List ℕ) (r : Framer) : Type 0 where
  pub is : r ≡ framer_in s

pub record PutsFramer (f : Framer) (room room' : List ℕ) : Type 0 where
  pub is : room' ≡ over (framer_bytes f) room
  pub small : Small f.count

pub record HalvesIn (s : List ℕ) (r : Halves) : Type 0 where
  pub is : r ≡ halves_in s

pub record PutsHalves (h : Halves) (room room' : List ℕ) : Type 0 where
  pub is : room' ≡ over (halves_bytes h) room
  pub small : SmallHalves h

pub record GatheringIn (s : List ℕ) (r : Gathering) : Type 0 where
  pub is : r ≡ gathering_in s

pub record PutsGathering (g : Gathering) (room room' : List ℕ) : Type 0 where
  pub is : room' ≡ over (gathering_bytes g) room
  pub small : Small g.count

pub record HubIn (s : List ℕ) (r : Hub) : Type 0 where
  pub is : r ≡ hub_in s

pub record PutsHub (h : Hub) (room room' : List ℕ) : Type 0 where
  pub is : room' ≡ over (hub_bytes h) room
  pub small : SmallHub h

pub record SenderIn (s : List ℕ) (r : Sender) : Type 0 where
  pub is : r ≡ sender_in s

pub record PutsSender (s : Sender) (room room' : List ℕ) : Type 0 where
  pub is : room' ≡ over (sender_bytes s) room
  pub small : SmallSender s

pub record LocksIn (s : List ℕ) (r : List Bool) : Type 0 where
  pub is : r ≡ flags_in (take parameter_count s)

pub record LockBytes (locked : List Bool) (r : List ℕ) : Type 0 where
  pub is : r ≡ flag_bytes locked

pub record TableIn (s : List ℕ) (r : Table) : Type 0 where
  pub is : r ≡ table_in s

pub record PutsTable (t : Table) (room room' : List ℕ) : Type 0 where
  pub is : room' ≡ over (table_bytes t) room
  pub sized : SizedTable t

pub record DeviceIn (s : List ℕ) (r : Device) : Type 0 where
  pub is : r ≡ device_in s

pub record Switches (d : Device) (values : List ℕ) : Type 0 where
  pub is : values ≡ switch_values d

pub record PutsDevice (d : Device) (room room' : List ℕ) : Type 0 where
  pub is : room' ≡ over (device_bytes d) room
  pub sized : SizedTable d.table

pub record ReaderIn (s : List ℕ) (r : Reader) : Type 0 where
  pub is : r ≡ reader_in s

pub record PutsReader (r : Reader) (room room' : List ℕ) : Type 0 where
  pub is : room' ≡ over (reader_bytes r) room
  pub small : SmallReader r

-- Whether an event changed a permanent value: the control bytes before it, and the reader after it.
unfoldable pub permanent_changed : Reader → Reader → Bool
permanent_changed before after = not (same_bytes before.device.table.permanent after.device.table.permanent)

pub record PermanentChanged (s : List ℕ) (after : Reader) (r : Bool) : Type 0 where
  pub is : r ≡ permanent_changed (reader_in s) after
