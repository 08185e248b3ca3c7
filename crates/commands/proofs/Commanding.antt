-- What the commands do: one law for each `return` of the functions that name a command, judge its data and change the device. Assumes nothing.
use Prim.Native.Nat.{ℕ, ◌-◌, ◌%◌, ◌≤◌, ◌<◌}
use mathlib.Core.Path.{◌≡◌, refl, sym, ◌∙◌}
use mathlib.Core.Bool.{Bool, true, false}
use mathlib.Core.List.{List, [], ◌∷◌}
use lib.Dec.{eqb}
use lib.ListN.{length, get_or, take, drop}
use borrow.Author.Tests.{ne_eqb, le-leb, lt-leb, eqb-true}
use Rattle.words.proofs.Lists.{rest_part, never}
use Rattle.packet.specs.Opcodes as opcode
use Rattle.packet.specs.Packet.{permanent_bit}
use Rattle.packet.specs.declared.Refusal.{Refusal}
use Rattle.packet.specs.declared.Refusal.TheVariants as refusal
use Rattle.table.specs.Table.{Outcome, done, refused}
use Rattle.table.specs.Promises.{values_of, table_of, changed_of, Sets}
use Rattle.table.specs.declared.Table.{Table}
use Rattle.std.proofs.Common.{Option, Some, None, Result, Ok, Err}
use Rattle.std.specs.Option.{ok_or}
use Rattle.std.specs.Result.{IsErrAnd}
use Rattle.std.proofs.lemmas.Result.{err_from_is_err_and}
use Rattle.words.specs.Lists.{pick}
use Rattle.table.proofs.Changing.{odd_read}
use Rattle.commands.specs.Beeps.{beep_limit, beep_allowed, row_of}
use Rattle.commands.specs.Commands.{Acted, denied, acted, named_by, length_allowed, reported, after_send, send_command, beep_command, effect, judged}
use Rattle.commands.specs.Promises.{beep_at, beep_of, device_of, commanded_of, Names, LengthAllowed, SendBeepAllowed, Reports, Fit, Commands}
use Rattle.commands.specs.declared.Command.{Command}
use Rattle.commands.specs.declared.Command.TheVariants as command
use Rattle.commands.specs.declared.Switches.{Switches}
use Rattle.commands.specs.declared.Beep.{Beep}
use Rattle.commands.specs.declared.Device.{Device}
use Rattle.commands.specs.declared.Acted.{Acted as ActedOn}

-- ---- opcodes and lengths

-- Each opcode is looked for once, so the tests before it need not be known.
pub named_at : {o : ℕ} {r : Option Command} (k : ℕ) → o ≡ k → r ≡ named_by k → Names o r
named_at k e t = record { is = rw e t }

pub named_none : {o : ℕ} → (o ≡ opcode.param_send → ⊥) → (o ≡ opcode.param_request → ⊥) → (o ≡ opcode.param_defaults → ⊥) → (o ≡ opcode.start_session → ⊥) →
    (o ≡ opcode.stop_session → ⊥) → (o ≡ opcode.beep → ⊥) → (o ≡ opcode.led_on → ⊥) → (o ≡ opcode.led_off → ⊥) → (o ≡ opcode.scan_enable → ⊥) → (o ≡ opcode.scan_disable → ⊥) →
    (o ≡ opcode.aim_on → ⊥) → (o ≡ opcode.aim_off → ⊥) → Names o None
unfolding named_by
named_none {o} a b c d e f g h i j k l =
    record {
      is =
          simp (ne_eqb o opcode.param_send a, ne_eqb o opcode.param_request b, ne_eqb o opcode.param_defaults c, ne_eqb o opcode.start_session d, ne_eqb o opcode.stop_session e, ne_eqb o opcode.beep f, ne_eqb o opcode.led_on g, ne_eqb o opcode.led_off h, ne_eqb o opcode.scan_enable i, ne_eqb o opcode.scan_disable j, ne_eqb o opcode.aim_on k, ne_eqb o opcode.aim_off l);
    }

module _ {k : Command} {carried : List ℕ} where
  pub length_as : {r : Bool} (k' : Command) → k ≡ k' → r ≡ length_allowed k' carried → LengthAllowed k carried r
  length_as k' e t = record { is = rw e t }

  pub fit_send : k ≡ command.ParamSend → Fit k carried → length carried % 2 ≡ 1
  unfolding length_allowed
  fit_send e f = eqb-true (length carried % 2) 1 (sym (odd_read carried) ∙ rw e at f.is)

  -- The commands with one byte of data.
  pub fit_one : (k' : Command) → k ≡ k' → length_allowed k' carried ≡ eqb (length carried) 1 → Fit k carried → length carried ≡ 1
  fit_one k' e t f = eqb-true (length carried) 1 (sym t ∙ rw e at f.is)

-- ---- beeps

reported_is : (code : ℕ) → code ≤ beep_limit → reported code ≡ row_of code ∷ []
unfolding reported beep_allowed
reported_is code h = simp (le-leb code beep_limit h)

pub report_row : {code : ℕ} → code ≤ beep_limit → Reports code (Some (beep_at (row_of code)))
unfolding beep_of
report_row {code} h = record { is = rw (reported_is code h) refl }

pub report_silent : {code : ℕ} → beep_limit < code → Reports code None
unfolding beep_of reported beep_allowed
report_silent {code} h = record { is = simp (lt-leb code beep_limit h) }

-- ---- a refusal is handed on

-- What `?` returns of a refusal is that refusal.
pub handed_on : {act : Acted} {r : Result ActedOn Refusal} {cause : Refusal} → IsErrAnd r (λ x. x ≡ cause) → act ≡ denied cause → Commands act r
unfolding commanded_of
handed_on {r = r} k e = let p = err_from_is_err_and r k in record { is = p.1 ∙ rw (p.2, e) refl }

pub denied_by : {act : Acted} {cause : Refusal} → act ≡ denied cause → Commands act (Err cause)
unfolding commanded_of
denied_by e = record { is = rw e refl }

-- ---- BEEP

-- A code that is reported is allowed, and one that is not is denied.
module _ (d : Device) (code : ℕ) where
  sounds_by : (t : Bool) {b : Beep} → beep_of (pick t (row_of code ∷ []) []) ≡ Some b →
      Commands (pick t (acted (device_of d) (pick t (row_of code ∷ []) [])) (denied refusal.Beep)) (Ok (record { device = d; beep = Some b }))
  unfolding commanded_of beep_of
  sounds_by true q = record { is = rw q refl }
  sounds_by false q = never (cc)

  unsounded_by : (t : Bool) → beep_of (pick t (row_of code ∷ []) []) ≡ None → pick t (acted (device_of d) (pick t (row_of code ∷ []) [])) (denied refusal.Beep) ≡ denied refusal.Beep
  unfolding beep_of
  unsounded_by true q = never (cc)
  unsounded_by false q = refl

module _ (d : Device) {code : ℕ} {o : Option Beep} (k : Reports code o) where
  pub sounds : {b : Beep} → o ≡ Some b → Commands (beep_command (device_of d) code) (Ok (record { device = d; beep = Some b }))
  unfolding beep_command reported
  sounds e = sounds_by d code (beep_allowed code) (sym k.is ∙ e)

  pub unsounded : {cause : Refusal} → o ≡ None → Err cause ≡ ok_or o refusal.Beep → beep_command (device_of d) code ≡ denied cause
  unfolding beep_command reported
  unsounded {cause} e v =
      let w : Err cause ≡ Err refusal.Beep = rw e at v in
      let f : refusal.Beep ≡ cause = cc in
      unsounded_by d code (beep_allowed code) (sym k.is ∙ e) ∙ rw f refl

-- ---- PARAM_SEND

-- What came of the settings, by what `table::set` returned.
set_done : (o : Outcome) {x : Result Table Refusal} {next : Table} → x ≡ changed_of o → x ≡ Ok next → o ≡ done (values_of next)
unfolding changed_of
set_done (done v) {next = next} e s = let f : next ≡ table_of v = cc in rw f refl
set_done (refused cause) e s = never (cc)

set_refused : (o : Outcome) {x : Result Table Refusal} {cause : Refusal} → x ≡ changed_of o → x ≡ Err cause → o ≡ refused cause
unfolding changed_of
set_refused (done v) e s = never (cc)
set_refused (refused cause) e s = cc

module _ (d : Device) (status : ℕ) (carried : List ℕ) {t : Bool} (p : SendBeepAllowed (get_or carried 0 0) t) where
  pub send_beep_denied : t ≡ false → send_command (device_of d) status carried ≡ denied refusal.Beep
  unfolding send_command
  send_beep_denied e = simp (sym p.is ∙ e)

  module _ {x : Result Table Refusal} (e : t ≡ true) (s : Sets d.table (take (length carried - 1) (drop 1 carried)) (eqb (permanent_bit status) 1) x) where
    pub send_done : {next : Table} {b : Option Beep} → x ≡ Ok next → Reports (get_or carried 0 0) b →
        Commands (send_command (device_of d) status carried) (Ok (record { device = record { table = next; switches = d.switches }; beep = b }))
    unfolding send_command after_send commanded_of
    send_done v k = record { is = rw k.is (sym (simp (sym p.is ∙ e, set_done _ (rw (rest_part 1 carried) at s.is) v))) }

    pub send_denied : {cause : Refusal} → x ≡ Err cause → send_command (device_of d) status carried ≡ denied cause
    unfolding send_command after_send
    send_denied v = simp (sym p.is ∙ e, set_refused _ (rw (rest_part 1 carried) at s.is) v)

-- ---- the command

module _ (d : Device) {k : Command} (status : ℕ) (carried : List ℕ) where
  pub effect_as : {act : Acted} {r : Result ActedOn Refusal} (k' : Command) → k ≡ k' → effect (device_of d) k' status carried ≡ act → Commands act r → Commands (effect (device_of d) k status carried) r
  effect_as k' e s q = rw (e, s) q

  -- A command that leaves this table and these switches, and reports nothing.
  pub effect_does : {t : Table} {s : Switches} (k' : Command) → k ≡ k' → effect (device_of d) k' status carried ≡ acted (record { values = values_of t; switches = s }) [] →
      Commands (effect (device_of d) k status carried) (Ok (record { device = record { table = t; switches = s }; beep = None }))
  unfolding commanded_of beep_of
  effect_does k' e s = rw (e, s) (record { is = refl })

  pub judged_acts : {b : Bool} {r : Result ActedOn Refusal} → LengthAllowed k carried b → b ≡ true → Commands (effect (device_of d) k status carried) r → Commands (judged (device_of d) k status carried) r
  unfolding judged
  judged_acts q e p = record { is = p.is ∙ simp (sym q.is ∙ e) }

  pub judged_data : {b : Bool} → LengthAllowed k carried b → b ≡ false → judged (device_of d) k status carried ≡ denied refusal.Data
  unfolding judged
  judged_data q e = simp (sym q.is ∙ e)

pub fits : {k : Command} {carried : List ℕ} {b : Bool} → LengthAllowed k carried b → b ≡ true → Fit k carried
fits q e = record { is = sym q.is ∙ e }
