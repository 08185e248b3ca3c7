-- §11: the reader's commands by name, the data that each takes, and what it does.
use Rattle.std.specs.Prelude.{ℕ, ◌%◌, Bool, true, false, List, [], ◌∷◌, Option, Some, None, eqb, length, get_or, drop}
use Rattle.words.specs.Lists.{pick, both, either}
use Rattle.packet.specs.Opcodes as opcode
use Rattle.packet.specs.Packet.{permanent_bit}
use Rattle.packet.specs.declared.Refusal.{Refusal}
use Rattle.packet.specs.declared.Refusal.TheVariants as refusal
use Rattle.table.specs.Table.{Values, read_pairs, send_length_allowed, request_length_allowed, Outcome, done, refused, set_pairs, set_defaults}
use Rattle.commands.specs.Beeps.{beep_allowed, send_beep_allowed, row_of}
use Rattle.commands.specs.declared.Command.{Command}
use Rattle.commands.specs.declared.Command.TheVariants.{ParamSend, ParamRequest, ParamDefaults, StartSession, StopSession, Beep, LedOn, LedOff, ScanEnable, ScanDisable, AimOn, AimOff}
use Rattle.commands.specs.declared.Switches.{Switches}

-- The parameter values, and what the commands switch.
pub record DeviceState : Type 0 where
  pub values : Values
  pub switches : Switches

-- Scanning is enabled at power-up; session, aim and LED are off.
abbrev pub fresh : Values → DeviceState
fresh v = record { values = v; switches = record { scanning = true; session = false; aim = false; led = false } }

-- ---- opcodes and data lengths

unfoldable pub named_by : ℕ → Option Command
named_by o =
    pick (eqb o opcode.param_send) (Some ParamSend)
    (pick (eqb o opcode.param_request) (Some ParamRequest)
    (pick (eqb o opcode.param_defaults) (Some ParamDefaults)
    (pick (eqb o opcode.start_session) (Some StartSession)
    (pick (eqb o opcode.stop_session) (Some StopSession)
    (pick (eqb o opcode.beep) (Some Beep)
    (pick (eqb o opcode.led_on) (Some LedOn)
    (pick (eqb o opcode.led_off) (Some LedOff)
    (pick (eqb o opcode.scan_enable) (Some ScanEnable)
    (pick (eqb o opcode.scan_disable) (Some ScanDisable)
    (pick (eqb o opcode.aim_on) (Some AimOn) (pick (eqb o opcode.aim_off) (Some AimOff) None)))))))))))

unfoldable pub length_allowed : Command → List ℕ → Bool
length_allowed ParamSend d = send_length_allowed d
length_allowed ParamRequest d = request_length_allowed d
length_allowed ParamDefaults d = eqb (length d) 0
length_allowed StartSession d = eqb (length d) 0
length_allowed StopSession d = eqb (length d) 0
length_allowed Beep d = eqb (length d) 1
length_allowed LedOn d = eqb (length d) 1
length_allowed LedOff d = eqb (length d) 1
length_allowed ScanEnable d = eqb (length d) 0
length_allowed ScanDisable d = eqb (length d) 0
length_allowed AimOn d = eqb (length d) 0
length_allowed AimOff d = eqb (length d) 0

-- ---- the switches

-- START_SESSION while scanning is disabled is ACKed and starts none; a session that is on stays on.
unfoldable pub session_started : Switches → Switches
session_started s = record { scanning = s.scanning; session = either s.session s.scanning; aim = s.aim; led = s.led }

unfoldable pub session_stopped : Switches → Switches
session_stopped s = record { scanning = s.scanning; session = false; aim = s.aim; led = s.led }

-- SCAN_DISABLE ends a session.
unfoldable pub scanning_to : Bool → Switches → Switches
scanning_to on s = record { scanning = on; session = both on s.session; aim = s.aim; led = s.led }

unfoldable pub aim_to : Bool → Switches → Switches
aim_to on s = record { scanning = s.scanning; session = s.session; aim = on; led = s.led }

-- LED looks at bit 0 only.
unfoldable pub led_to : Bool → ℕ → Switches → Switches
led_to on bits s = record { scanning = s.scanning; session = s.session; aim = s.aim; led = pick (eqb (bits % 2) 1) on s.led }

-- ---- what a command does

-- Denied, or acted on: the device afterwards, and the rows of §13 that are reported.
pub data Acted : Type 0 where
  denied : Refusal → Acted
  acted : DeviceState → List (List ℕ) → Acted

unfoldable pub reported : ℕ → List (List ℕ)
reported code = pick (beep_allowed code) (row_of code ∷ []) []

unfoldable pub after_send : DeviceState → ℕ → Outcome → Acted
after_send d code (done v) = acted (record { values = v; switches = d.switches }) (reported code)
after_send d code (refused r) = denied r

unfoldable pub send_command : DeviceState → ℕ → List ℕ → Acted
send_command d status bytes =
    pick (send_beep_allowed (get_or bytes 0 0))
    (after_send d (get_or bytes 0 0) (set_pairs (eqb (permanent_bit status) 1) (read_pairs (drop 1 bytes)) d.values))
    (denied refusal.Beep)

unfoldable pub beep_command : DeviceState → ℕ → Acted
beep_command d code = pick (beep_allowed code) (acted d (reported code)) (denied refusal.Beep)

-- Only the switches change.
abbrev pub switching : DeviceState → Switches → Acted
switching d s = acted (record { values = d.values; switches = s }) []

-- What it does where the length of its data is right: 8 and 9, or acted on.
unfoldable pub effect : DeviceState → Command → ℕ → List ℕ → Acted
effect d ParamSend status bytes = send_command d status bytes
effect d ParamRequest status bytes = acted d []
effect d ParamDefaults status bytes = acted (record { values = set_defaults d.values; switches = d.switches }) []
effect d StartSession status bytes = switching d (session_started d.switches)
effect d StopSession status bytes = switching d (session_stopped d.switches)
effect d Beep status bytes = beep_command d (get_or bytes 0 0)
effect d LedOn status bytes = switching d (led_to true (get_or bytes 0 0) d.switches)
effect d LedOff status bytes = switching d (led_to false (get_or bytes 0 0) d.switches)
effect d ScanEnable status bytes = switching d (scanning_to true d.switches)
effect d ScanDisable status bytes = switching d (scanning_to false d.switches)
effect d AimOn status bytes = switching d (aim_to true d.switches)
effect d AimOff status bytes = switching d (aim_to false d.switches)

-- 7, then 8 and 9.
unfoldable pub judged : DeviceState → Command → ℕ → List ℕ → Acted
judged d k status bytes = pick (length_allowed k bytes) (effect d k status bytes) (denied refusal.Data)
