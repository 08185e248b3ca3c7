-- What can come of a command, each outcome with what it needs: the theorems here and of the whole end go by these cases. Assumes nothing.
use Prim.Native.Nat.{ℕ, ◌≤◌}
use mathlib.Core.Path.{◌≡◌, refl}
use mathlib.Core.Bool.{Bool, true, false}
use mathlib.Core.List.{List}
use native.Mathlib.Omega.{arith}
use lib.Dec.{eqb}
use lib.ListN.{get_or, drop}
use Rattle.words.specs.Lists.{pick}
use Rattle.words.proofs.Lists.{never}
use Rattle.packet.specs.Packet.{permanent_bit}
use Rattle.packet.specs.Refusals.{number_of, cause_of}
use Rattle.packet.specs.declared.Refusal.{Refusal}
use Rattle.packet.specs.declared.Refusal.TheVariants as refusal
use Rattle.table.specs.Table.{Values, Reading, wrong_length, pairs, read_pairs, Outcome as Settled, done, refused as unsettled, set_pairs, changed, set_defaults, all_settable}
use Rattle.commands.specs.Beeps.{beep_allowed, send_beep_allowed}
use Rattle.commands.specs.Commands.{DeviceState, Acted, denied, acted, length_allowed, after_send, send_command, beep_command, effect, judged}
use Rattle.commands.specs.declared.Command.{Command}
use Rattle.commands.specs.declared.Command.TheVariants.{ParamSend, ParamRequest, ParamDefaults, StartSession, StopSession, Beep, LedOn, LedOff, ScanEnable, ScanDisable, AimOn, AimOff}

-- Denied by number 7 to 9 and answered by NAK; or done, with a table that is the old one, that with the defaults set, or that with accepted settings.
pub data Does (d : DeviceState) : Acted → Type 0 where
  denies : {r : Refusal} → 4 ≤ number_of r → (cause_of r ≡ 0 → ⊥) → Does d (denied r)
  keeps : {next : DeviceState} {rows : List (List ℕ)} → next.values ≡ d.values → Does d (acted next rows)
  resets : {next : DeviceState} {rows : List (List ℕ)} → next.values ≡ set_defaults d.values → Does d (acted next rows)
  sets : {next : DeviceState} {rows : List (List ℕ)} (forever : Bool) (reading : Reading) → set_pairs forever reading d.values ≡ done next.values → Does d (acted next rows)

does_test : {d : DeviceState} {x y : Acted} (b : Bool) → Does d x → Does d y → Does d (pick b x y)
does_test true h k = h
does_test false h k = k

-- A list of settings is denied by number 7 or 9.
denial_by : (b : Bool) (v : Values) {r : Refusal} → pick b (done v) (unsettled refusal.Setting) ≡ unsettled r → (4 ≤ number_of r) × (cause_of r ≡ 0 → ⊥)
denial_by true v e = never (cc)
denial_by false v {r} e = let f : refusal.Setting ≡ r = cc in rw (← f) (omega arith, λ z. omega arith)

denial : (forever : Bool) (reading : Reading) (v : Values) {r : Refusal} → set_pairs forever reading v ≡ unsettled r → (4 ≤ number_of r) × (cause_of r ≡ 0 → ⊥)
unfolding set_pairs
denial forever wrong_length v {r} e = let f : refusal.Data ≡ r = cc in rw (← f) (omega arith, λ z. omega arith)
denial forever (pairs ps) v e = denial_by (all_settable v.locked ps) (changed forever ps v) e

module _ (d : DeviceState) where
  settles : (forever : Bool) (reading : Reading) (code : ℕ) (o : Settled) → set_pairs forever reading d.values ≡ o → Does d (after_send d code o)
  unfolding after_send
  settles forever reading code (done v) e = sets forever reading e
  settles forever reading code (unsettled r) e = let k = denial forever reading d.values e in denies k.0 k.1

  no : Does d (denied refusal.Beep)
  no = denies {r = refusal.Beep} (omega arith) (λ z. omega arith)

  pub does : (k : Command) (status : ℕ) (bytes : List ℕ) → Does d (effect d k status bytes)
  unfolding effect send_command beep_command
  does ParamSend status bytes =
      let forever = eqb (permanent_bit status) 1 in
      let reading = read_pairs (drop 1 bytes) in
      does_test (send_beep_allowed (get_or bytes 0 0)) (settles forever reading (get_or bytes 0 0) (set_pairs forever reading d.values) refl) no
  does ParamRequest status bytes = keeps refl
  does ParamDefaults status bytes = resets refl
  does StartSession status bytes = keeps refl
  does StopSession status bytes = keeps refl
  does Beep status bytes = does_test (beep_allowed (get_or bytes 0 0)) (keeps refl) no
  does LedOn status bytes = keeps refl
  does LedOff status bytes = keeps refl
  does ScanEnable status bytes = keeps refl
  does ScanDisable status bytes = keeps refl
  does AimOn status bytes = keeps refl
  does AimOff status bytes = keeps refl

  pub judged_does : (k : Command) (status : ℕ) (bytes : List ℕ) → Does d (judged d k status bytes)
  unfolding judged
  judged_does k status bytes = does_test (length_allowed k bytes) (does k status bytes) (denies {r = refusal.Data} (omega arith) (λ z. omega arith))
