-- What reading a saved set leaves, and what is locked: one law for each `return` of `load`, and the theorems over the definitions. Assumes nothing.
use Prim.Native.Nat.{ℕ}
use mathlib.Core.Path.{◌≡◌, refl, sym, ap, ◌∙◌}
use mathlib.Core.List.{List, [], ◌∷◌}
use lib.ListN.{length}
use Rattle.words.specs.Machine.{Done}
use Rattle.words.proofs.Lists.{never}
use Rattle.packet.specs.Packet.{unmarked}
use Rattle.packet.specs.declared.Refusal.{Refusal}
use Rattle.packet.specs.declared.Refusal.TheVariants.{Form}
use Rattle.framer.specs.Halves.{line_in, kept_in, half_of, last_of, place_of}
use Rattle.table.specs.Rows.{parameter_count}
use Rattle.table.specs.Table.{Values, Outcome as Settled, done, refused as unsettled, power_up}
use Rattle.table.specs.Promises.{values_of, table_of, changed_of}
use Rattle.table.specs.declared.Table.{Table}
use Rattle.std.proofs.Common.{Result, Ok, Err}
use Rattle.std.specs.Result.{IsErrAnd}
use Rattle.std.proofs.lemmas.Result.{err_from_is_err_and}
use Rattle.table.proofs.Theorems.{AllAllowed, KeepsLocked, keeps_same, keeps_then, power_up_keeps, powered_up_allowed}
use Rattle.saved.specs.Saved.{edition1, form_of, read_form}
use Rattle.saved.specs.Promises as saved
use Rattle.saved.proofs.Theorems.{read_refusal, taken_allowed, carried}
use Rattle.commands.specs.Commands.{DeviceState, acted}
use Rattle.commands.proofs.Outcomes.{Does}
use Rattle.commands.proofs.Theorems.{does_allowed, does_keeps}
use Rattle.reader.specs.Reader.{ReaderState, Output, refused, sender_hears, with_core, start_message, time_out, power_up_reader, with_set, settled, load_set}
use Rattle.reader.specs.Moments.{Moment, hears, starts, times_out, powers_up, after_one, after_all}
use Rattle.reader.specs.Promises.{last_answer_of, core_of, state_of, with_table, loaded_of, Loads, left_of, WithTable}
use Rattle.reader.specs.declared.Reader.{Reader}
use Rattle.reader.proofs.Theorems.{event_values}

-- ---- `load`

done_by : (reader : Reader) (o : Settled) {set : Table} → Ok set ≡ changed_of o → Ok (with_table reader set) ≡ loaded_of reader o
unfolding changed_of loaded_of
done_by reader (done v) {set} q = let e : set ≡ table_of v = cc in rw e refl
done_by reader (unsettled x) q = never (cc)

refused_by : (o : Settled) {x : Refusal} → Err x ≡ changed_of o → o ≡ unsettled x
unfolding changed_of
refused_by (done v) q = never (cc)
refused_by (unsettled y) q = cc

module _ {reader : Reader} {form : List ℕ} where
  pub load_done : {set : Table} {next : Reader} → saved.Loads form (Ok set) → WithTable reader set next → Loads reader form (Ok next)
  load_done k w = record { is = rw w.is (done_by reader (read_form edition1 form) k.is) }

  pub load_refused : {x : Refusal} {r : Result Reader Refusal} → saved.Loads form (Err x) → IsErrAnd r (λ y. y ≡ x) → Loads reader form r
  unfolding loaded_of
  load_refused {r = r} k e =
      let p = err_from_is_err_and r e in
      record { is = rw (refused_by (read_form edition1 form) k.is, p.1, p.2) refl }

-- Another table is that of the whole end, whatever stands in the buffers.
pub with_table_state : (reader : Reader) (t : Table) (line answers message : List ℕ) → state_of (with_table reader t) line answers message ≡ with_set (state_of reader line answers message) (values_of t)
unfolding with_set state_of core_of last_answer_of line_in kept_in half_of last_of place_of unmarked
with_table_state reader t line answers message = refl

-- And so is reading a set.
settled_state : (reader : Reader) (line answers message : List ℕ) (o : Settled) →
    state_of (left_of reader (loaded_of reader o)) line answers message ≡ (settled (state_of reader line answers message) o).next
unfolding loaded_of settled
settled_state reader line answers message (done v) = with_table_state reader (table_of v) line answers message
settled_state reader line answers message (unsettled x) = refl

pub loaded_state : {reader : Reader} {form : List ℕ} {r : Result Reader Refusal} (line answers message : List ℕ) → Loads reader form r →
    state_of (left_of reader r) line answers message ≡ (load_set (state_of reader line answers message) form).next
unfolding load_set
loaded_state {reader} {form} line answers message k = rw k.is (settled_state reader line answers message (read_form edition1 form))

-- ---- a set that is taken or refused

refused_same_by : (reader : Reader) (o : Settled) {x : Refusal} → loaded_of reader o ≡ Err x → o ≡ unsettled x
unfolding loaded_of
refused_same_by reader (done v) e = never (cc)
refused_same_by reader (unsettled y) {x} e = cc

-- A refused set leaves every part of the control value, and its refusal is number 12.
module _ {reader : Reader} {form : List ℕ} {r : Result Reader Refusal} {x : Refusal} (k : Loads reader form r) (e : r ≡ Err x) where
  pub refused_same : left_of reader r ≡ reader
  refused_same = rw e refl

  pub refused_form : x ≡ Form
  refused_form = read_refusal edition1 form (refused_same_by reader (read_form edition1 form) (sym k.is ∙ e))

-- A set that is taken replaces values and locks, whatever was locked; the last accepted packet is forgotten, and all else stays.
pub load_takes : (s : ReaderState) (bytes : List ℕ) {v : Values} → read_form edition1 bytes ≡ done v → load_set s bytes ≡ record { next = with_set s v; told = [] }
unfolding load_set settled
load_takes s bytes q = rw q refl

-- A refused form changes nothing at all.
pub load_refuses : (s : ReaderState) (bytes : List ℕ) {x : Refusal} → read_form edition1 bytes ≡ unsettled x → load_set s bytes ≡ record { next = s; told = refused x ∷ [] }
unfolding load_set settled
load_refuses s bytes q = rw q refl

-- What one reader writes, another that reads it has: the same permanent values and locks.
pub carried_over : (from to : ReaderState) → AllAllowed from.core.device.values → length from.core.device.values.locked ≡ parameter_count →
    (load_set to (form_of edition1 from.core.device.values)).next.core.device.values ≡ power_up from.core.device.values
unfolding with_set
carried_over from to a l =
    ap (λ (d : Done ReaderState Output). d.next.core.device.values) (load_takes to (form_of edition1 from.core.device.values) (carried from.core.device.values a.permanent l))

-- Reading leaves every value allowed.
settled_allowed : (s : ReaderState) (bytes : List ℕ) (o : Settled) → read_form edition1 bytes ≡ o → AllAllowed s.core.device.values → AllAllowed (settled s o).next.core.device.values
unfolding settled with_set
settled_allowed s bytes (done v) q k = taken_allowed bytes v q
settled_allowed s bytes (unsettled x) q k = k

pub load_allowed : (s : ReaderState) (bytes : List ℕ) → AllAllowed s.core.device.values → AllAllowed (load_set s bytes).next.core.device.values
unfolding load_set
load_allowed s bytes k = settled_allowed s bytes (read_form edition1 bytes) refl k

-- ---- runs of events, starts, time-outs and power-ups

-- The same over every run: a start and a time-out leave the values, and what holds over two runs holds over both together.
module _ (P : Values → Values → Type 0) (stays : (v : Values) → P v v) (joins : (u v w : Values) → P u v → P v w → P u w)
    (commanded : (d next : DeviceState) (rows : List (List ℕ)) → Does d (acted next rows) → P d.values next.values) (powered : (v : Values) → P v (power_up v)) where
  one_values : (s : ReaderState) (m : Moment) → P s.core.device.values (after_one s m).core.device.values
  unfolding after_one start_message time_out with_core sender_hears power_up_reader
  one_values s (hears e) = event_values P stays commanded s e
  one_values s (starts code m) = stays s.core.device.values
  one_values s times_out = stays s.core.device.values
  one_values s powers_up = powered s.core.device.values

  run_values : (s : ReaderState) (ms : List Moment) → P s.core.device.values (after_all s ms).core.device.values
  unfolding after_all
  run_values s [] = stays s.core.device.values
  run_values s (m ∷ ms) =
      joins s.core.device.values (after_one s m).core.device.values (after_all (after_one s m) ms).core.device.values (one_values s m) (run_values (after_one s m) ms)

-- A locked parameter keeps its permanent value through every such run, and both values where they were equal; so it does through every event.
pub locked_kept : (s : ReaderState) (ms : List Moment) → KeepsLocked s.core.device.values (after_all s ms).core.device.values
locked_kept s ms = run_values KeepsLocked keeps_same (λ u v w k m. keeps_then k m) (λ d next rows does. does_keeps does) power_up_keeps s ms

-- Every value stays allowed through every such run.
pub always_allowed : (s : ReaderState) (ms : List Moment) → AllAllowed s.core.device.values → AllAllowed (after_all s ms).core.device.values
always_allowed s ms k =
    run_values (λ v v'. AllAllowed v → AllAllowed v') (λ v a. a) (λ u v w f g a. g (f a)) (λ d next rows does a. does_allowed does a) (λ v a. powered_up_allowed v a) s ms k
