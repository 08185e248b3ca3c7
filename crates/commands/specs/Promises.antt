-- What the calls of the commands promise: which command an opcode names, whether its data is taken, the device afterwards, and what is told of it.
use Rattle.std.specs.Prelude.{ℕ, Bool, true, List, [], ◌∷◌, ◌≡◌, Option, Some, None, Result, Ok, Err, get_or}
use Rattle.packet.specs.declared.Refusal.{Refusal}
use Rattle.table.specs.Promises.{values_of, table_of}
use Rattle.commands.specs.Beeps.{send_beep_allowed}
use Rattle.commands.specs.Commands.{DeviceState, Acted, denied, acted, named_by, length_allowed, session_started, scanning_to, led_to, reported}
use Rattle.commands.specs.declared.Command.{Command}
use Rattle.commands.specs.declared.Switches.{Switches}
use Rattle.commands.specs.declared.Beep.{Beep}
use Rattle.commands.specs.declared.Device.{Device}
use Rattle.commands.specs.declared.Acted.{Acted as ActedOn}

-- ---- what a control value stands for

abbrev pub device_of : Device → DeviceState
device_of d = record { values = values_of d.table; switches = d.switches }

abbrev pub device_from : DeviceState → Device
device_from d = record { table = table_of d.values; switches = d.switches }

-- ---- the answers

-- A row of §13 as it is reported.
abbrev pub beep_at : List ℕ → Beep
beep_at row = record { duration = get_or row 0 0; pitch = get_or row 1 0; count = get_or row 2 0 }

unfoldable pub beep_of : List (List ℕ) → Option Beep
beep_of [] = None
beep_of (row ∷ rows) = Some (beep_at row)

-- What a command did: denied, by this refusal and nothing else; or acted on, the device afterwards and the row that is reported.
unfoldable pub commanded_of : Acted → Result ActedOn Refusal
commanded_of (denied r) = Err r
commanded_of (acted next rows) = Ok (record { device = device_from next; beep = beep_of rows })

-- ---- promises

pub record Names (opcode : ℕ) (r : Option Command) : Type 0 where
  pub is : r ≡ named_by opcode

pub record LengthAllowed (command : Command) (carried : List ℕ) (r : Bool) : Type 0 where
  pub is : r ≡ length_allowed command carried

-- A command that does what act says.
pub record Commands (act : Acted) (r : Result ActedOn Refusal) : Type 0 where
  pub is : r ≡ commanded_of act

-- ---- the functions inside, each against its own level of the definition

-- Data of a length that the command takes.
pub record Fit (command : Command) (carried : List ℕ) : Type 0 where
  pub is : length_allowed command carried ≡ true

pub record SendBeepAllowed (code : ℕ) (r : Bool) : Type 0 where
  pub is : r ≡ send_beep_allowed code

pub record Reports (code : ℕ) (r : Option Beep) : Type 0 where
  pub is : r ≡ beep_of (reported code)

pub record StartsSession (s r : Switches) : Type 0 where
  pub is : r ≡ session_started s

pub record Scans (s : Switches) (on : Bool) (r : Switches) : Type 0 where
  pub is : r ≡ scanning_to on s

pub record Lights (s : Switches) (on : Bool) (bits : ℕ) (r : Switches) : Type 0 where
  pub is : r ≡ led_to on bits s
