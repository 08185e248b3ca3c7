-- Demand 1 at every exported call, from its contract and the number it told; what is lent is any bytes. Assumes nothing.
use Prim.Native.Nat.{ℕ, ◌≤◌, ◌<◌}
use mathlib.Core.Path.{◌≡◌, refl, sym, ap, ◌∙◌}
use mathlib.Core.Bool.{Bool, true, false}
use mathlib.Core.List.{List, [], ◌∷◌}
use mathlib.Core.Logic.{◌⊎◌, inl, inr, ⊎_elim}
use native.Mathlib.Omega.{arith}
use lib.Dec.{eqb, ltb}
use lib.ListN.{length}
use borrow.Author.Tests.{le-ltb, eq-eqb, ne_eqb, eqb-true, eqb-false}
use Rattle.std.proofs.Common.{Result, Ok, Err}
use Rattle.words.specs.Lists.{pick, over, Each, none, one}
use Rattle.words.proofs.Lists.{over_nil, never, same_refl}
use Rattle.packet.specs.Packet.{body_of, seal, reply_body, written, size_of}
use Rattle.packet.specs.Refusals.{number_of}
use Rattle.packet.specs.declared.Refusal.{Refusal}
use Rattle.packet.specs.declared.Refusal.TheVariants as refusal
use Rattle.framer.specs.declared.Found.{Found}
use Rattle.framer.specs.declared.Found.TheVariants as found
use Rattle.framer.proofs.Refusing as framing
use Rattle.hub.specs.Promises as joining
use Rattle.hub.specs.Block.{Block}
use Rattle.hub.specs.declared.Told.{Told}
use Rattle.hub.specs.declared.Told.TheVariants as told
use Rattle.hub.proofs.Refusing as joining-refuses
use Rattle.sender.specs.declared.Outcome.{Outcome}
use Rattle.sender.specs.declared.Outcome.TheVariants as outcome
use Rattle.sender.proofs.Refusing as sending
use Rattle.table.specs.Table.{Outcome as Settled, done, refused as unsettled}
use Rattle.saved.specs.Saved.{edition1, read_form}
use Rattle.saved.proofs.Writing.{save_refused}
use Rattle.saved.proofs.Theorems.{read_refusal}
use Rattle.reader.specs.Promises as reading
use Rattle.reader.specs.declared.Reader.{Reader}
use Rattle.reader.specs.declared.Told.{Told as Commanded}
use Rattle.reader.specs.declared.Told.TheVariants as commanded
use Rattle.reader.specs.declared.Started.{Started}
use Rattle.reader.proofs.Refusing as reading-refuses
use Rattle.reader.proofs.Loading as loading
use Rattle.motikhund.specs.Lent.{Need, at_least, Enough, none as no_more, more, Asks, IfNamed, KeptUnless, Made}
use Rattle.motikhund.specs.Control.{reader_control_size, reader_in, permanent_changed}
use Rattle.motikhund.specs.Numbers.{reply_of, RefusalNumber, result_number, checked_values, found_number, found_values, hub_number, hub_values, block_values, outcome_number, start_values, is_refused, waits_number, reader_number, reader_values, settled_number}
use Rattle.motikhund.specs.Promises.{PacketChecks, PacketBuilds, PacketAnswers, FramerIdle, FramerHears, HubOn, HubHears, HubHearsBlock, SenderIdle, SenderStarts, SenderHears, SenderWaits, ReaderOn, ReaderPowersUp, ReaderStarts, ReaderTimesOut, ReaderHears, ReaderValue, ReaderLocked, ReaderSaves, ReaderLoads, ReaderSwitches}
use Rattle.motikhund.specs.Tables.{values_in, all_allowed, SetsTable, TakesOut, PutsInto, PutsBack}
use Rattle.motikhund.specs.declared.tables.MkTable.{MkTable}
use Rattle.motikhund.proofs.InPlace.{refused_keeps}
use Rattle.table.specs.Table.{read_pairs, set_pairs}
use Rattle.table.proofs.Theorems.{set_refusal}
use Rattle.motikhund.specs.Refused.{lent, lent_table, same, same_table, Untouched, Refuses13, RefusesBy, EventRefuses, BlockRefuses, not_taken, was_taken, FramerTaken, HubTaken, BlockTaken, ReaderTaken}
use Rattle.motikhund.proofs.Blocks.{none_taken, BlockRefused, at_once, behind_a_byte, block_refused}
use Rattle.motikhund.proofs.Unique.{decided}

-- ---- numbers of refusals

-- They stand between 1 and 15,
pub number_least : (x : Refusal) → 1 ≤ number_of x
number_least refusal.Length = omega arith
number_least refusal.Checksum = omega arith
number_least refusal.Cut = omega arith
number_least refusal.Source = omega arith
number_least refusal.Status = omega arith
number_least refusal.Opcode = omega arith
number_least refusal.Data = omega arith
number_least refusal.Beep = omega arith
number_least refusal.Setting = omega arith
number_least refusal.Barred = omega arith
number_least refusal.Start = omega arith
number_least refusal.Form = omega arith
number_least refusal.Room = omega arith
number_least refusal.Long = omega arith

pub number_most : (x : Refusal) → number_of x ≤ 15
number_most refusal.Length = omega arith
number_most refusal.Checksum = omega arith
number_most refusal.Cut = omega arith
number_most refusal.Source = omega arith
number_most refusal.Status = omega arith
number_most refusal.Opcode = omega arith
number_most refusal.Data = omega arith
number_most refusal.Beep = omega arith
number_most refusal.Setting = omega arith
number_most refusal.Barred = omega arith
number_most refusal.Start = omega arith
number_most refusal.Form = omega arith
number_most refusal.Room = omega arith
number_most refusal.Long = omega arith

-- so that nothing else that is told has one of them,
not_told : {A : Type 0} {n : ℕ} {x : Refusal} → RefusalNumber x n → (n < 1) ⊎ (15 < n) → A
not_told {x = x} q (inl h) = let l = number_least x in let e = q.is in absurd (omega arith)
not_told {x = x} q (inr h) = let m = number_most x in let e = q.is in absurd (omega arith)

-- and no two refusals have the same.
refusal_of : ℕ → Refusal
refusal_of n =
    pick (eqb n 1) refusal.Length
    (pick (eqb n 2) refusal.Checksum
    (pick (eqb n 3) refusal.Cut
    (pick (eqb n 4) refusal.Source
    (pick (eqb n 5) refusal.Status
    (pick (eqb n 6) refusal.Opcode
    (pick (eqb n 7) refusal.Data
    (pick (eqb n 8) refusal.Beep
    (pick (eqb n 9) refusal.Setting
    (pick (eqb n 10) refusal.Barred
    (pick (eqb n 11) refusal.Start
    (pick (eqb n 12) refusal.Form
    (pick (eqb n 13) refusal.Room refusal.Long))))))))))))

number_back : (x : Refusal) → refusal_of (number_of x) ≡ x
unfolding refusal_of
number_back refusal.Length = refl
number_back refusal.Checksum = refl
number_back refusal.Cut = refl
number_back refusal.Source = refl
number_back refusal.Status = refl
number_back refusal.Opcode = refl
number_back refusal.Data = refl
number_back refusal.Beep = refl
number_back refusal.Setting = refl
number_back refusal.Barred = refl
number_back refusal.Start = refl
number_back refusal.Form = refl
number_back refusal.Room = refl
number_back refusal.Long = refl

pub same_number : {x y : Refusal} → RefusalNumber x (number_of y) → y ≡ x
same_number {x} {y} q = sym (number_back y) ∙ (ap refusal_of q.is ∙ number_back x)

-- The number of what was told is the number that was told.
told_as : {x : Refusal} {r n : ℕ} → r ≡ n → RefusalNumber x r → RefusalNumber x n
told_as e q = record { is = sym e ∙ q.is }

-- ---- a told number that is a refusal's tells that refusal

result_refused : {A : Type 0} (made : Result A Refusal) {n : ℕ} {x : Refusal} → (n < 1) ⊎ (15 < n) → RefusalNumber x (result_number made n) → made ≡ Err x
result_refused (Ok a) h e = not_told e h
result_refused (Err y) h e = ap Err (same_number e)

found_refused : (f : Found) {x : Refusal} → RefusalNumber x (found_number f) → f ≡ found.Refused x
found_refused found.Nothing e = not_told e (inl (omega arith))
found_refused (found.Packet head) e = not_told e (inr (omega arith))
found_refused (found.Refused y) e = ap found.Refused (same_number e)

hub_refused : (t : Told) {x : Refusal} → RefusalNumber x (hub_number t) → t ≡ told.Refused x
hub_refused told.Nothing e = not_told e (inl (omega arith))
hub_refused told.Added e = not_told e (inr (omega arith))
hub_refused told.Repeated e = not_told e (inr (omega arith))
hub_refused (told.Message code count) e = not_told e (inr (omega arith))
hub_refused (told.Refused y) e = ap told.Refused (same_number e)

outcome_refused : (o : Outcome) {x : Refusal} → RefusalNumber x (outcome_number o) → o ≡ outcome.Refused x
outcome_refused outcome.Nothing e = not_told e (inl (omega arith))
outcome_refused (outcome.Copy size gap) e = not_told e (inr (omega arith))
outcome_refused (outcome.Delivered copies) e = not_told e (inr (omega arith))
outcome_refused (outcome.Failed copies) e = not_told e (inr (omega arith))
outcome_refused (outcome.Refused y) e = ap outcome.Refused (same_number e)

-- The sender refuses no event, so that it is the reader's own refusal.
reader_refused : (t : Commanded) (o : Outcome) {x : Refusal} → (o ≡ outcome.Refused x → ⊥) → RefusalNumber x (reader_number t o) → t ≡ commanded.Refused x
reader_refused commanded.Nothing o h e = absurd (h (outcome_refused o e))
reader_refused (commanded.Refused y) o h e = ap commanded.Refused (same_number e)
reader_refused (commanded.Acted beep) o h e = not_told e (inr (omega arith))
reader_refused commanded.Repeated o h e = not_told e (inr (omega arith))

waits_told : {A : Type 0} (out : Bool) {x : Refusal} → RefusalNumber x (waits_number out) → A
waits_told true e = not_told e (inr (omega arith))
waits_told false e = not_told e (inl (omega arith))

-- ---- what is lent, and the values

-- Something lent is too small, or nothing is.
by_asks : {needs : List Need} {A B P : Type 0} → Asks needs A B → (A → P) → (Enough needs → B → P) → P
by_asks {needs} p refused taken = ⊎_elim (λ k. refused (p.refuses k)) (λ e. taken e (p.takes e)) (decided needs)

-- A number that names nothing tells no refusal.
by_named : {named : Bool} {A B P : Type 0} {r : ℕ} {x : Refusal} → RefusalNumber x r → IfNamed named A B → (A → r ≡ 0) → (B → P) → P
by_named {named} {P = P} q n zero taken = by named refl
  where
    by : (d : Bool) → named ≡ d → P
    by true e = taken (n.takes e)
    by false e = not_told (told_as (zero (n.passes e)) q) (inl (omega arith))

zeros_1 : {v : ℕ} → v ≡ 0 → Each (λ (n : ℕ). n ≡ 0) (v ∷ [])
zeros_1 e = one e none

zeros_2 : {values : List ℕ} → values ≡ 0 ∷ 0 ∷ [] → Each (λ (n : ℕ). n ≡ 0) values
zeros_2 e = rw e (one refl (one refl none))

zeros_3 : {values : List ℕ} → values ≡ 0 ∷ 0 ∷ 0 ∷ [] → Each (λ (n : ℕ). n ≡ 0) values
zeros_3 e = rw e (one refl (one refl (one refl none)))

zeros_4 : {values : List ℕ} → values ≡ 0 ∷ 0 ∷ 0 ∷ 0 ∷ [] → Each (λ (n : ℕ). n ≡ 0) values
zeros_4 e = rw e (one refl (one refl (one refl (one refl none))))

zeros_6 : {values : List ℕ} → values ≡ 0 ∷ 0 ∷ 0 ∷ 0 ∷ 0 ∷ 0 ∷ [] → Each (λ (n : ℕ). n ≡ 0) values
zeros_6 e = rw e (one refl (one refl (one refl (one refl (one refl (one refl none))))))

-- ---- the packet

-- `mk_check`: the bytes are only read.
pub check_refuses : {s head : List ℕ} {r : ℕ} {x : Refusal} → PacketChecks s r head → RefusalNumber x r → Untouched [] head
check_refuses {head = head} k q =
    let f = result_refused k.found (inr (omega arith)) (told_as k.told q) in
    record { buffers_same = none; values_zero = zeros_4 (k.values ∙ ap checked_values f) }

nothing_written : (room packet : List ℕ) {b : Result ℕ Refusal} {x : Refusal} → b ≡ Err x → over (written b packet) room ≡ room
unfolding written
nothing_written room packet f = rw f (over_nil room)

room_untouched : {room room' : List ℕ} {size : ℕ} {b : Result ℕ Refusal} {x : Refusal} → b ≡ Err x → room' ≡ room → size ≡ size_of b → Untouched (lent room room' ∷ []) (size ∷ [])
room_untouched f e v = record { buffers_same = one (same e) none; values_zero = zeros_1 (v ∙ ap size_of f) }

-- `mk_build`: no byte of the room is written.
pub build_refuses : {room carried room' : List ℕ} {opcode source status r size : ℕ} {x : Refusal} → PacketBuilds room opcode source status carried r room' size → RefusalNumber x r →
    Untouched (lent room room' ∷ []) (size ∷ [])
build_refuses {room} {carried} {opcode = opcode} {source} {status} k q =
    let f = result_refused k.made (inr (omega arith)) (told_as k.told q) in
    room_untouched f (k.builds.room_is ∙ nothing_written room (seal (body_of opcode source status carried)) f) k.value

-- `mk_answer`
pub answer_refuses : {room room' : List ℕ} {source reply r size : ℕ} {x : Refusal} → PacketAnswers room source reply r room' size → RefusalNumber x r →
    Untouched (lent room room' ∷ []) (size ∷ [])
answer_refuses {room} {source = source} {reply} k q =
    by_asks k.asks (λ a. record { buffers_same = one (same a.1) none; values_zero = zeros_1 a.2 })
    (λ e n.
    by_named q n (λ a. a.0)
    (λ a.
    let f = result_refused a.made (inr (omega arith)) (told_as a.told q) in
    room_untouched f (a.answers.room_is ∙ nothing_written room (seal (reply_body source (reply_of reply))) f) a.value))

-- ---- calls that make a control value

made_refuses : {C : Type 0} {size : ℕ} {read : List ℕ → C} {bytes : C → List ℕ} {P : C → Type 0} {control control' : List ℕ} {r : ℕ} {x : Refusal} →
    Made size read bytes P control r control' → RefusalNumber x r → Refuses13 r (lent control control' ∷ []) []
made_refuses k q =
    by_asks k.asks (λ a. record { number = a.0; untouched = record { buffers_same = one (same a.1) none; values_zero = none } })
    (λ e a. not_told (told_as a.told q) (inl (omega arith)))

-- `mk_framer_idle`, `mk_hub_on`, `mk_sender_idle`, `mk_reader_on`, `mk_reader_power_up`
module _ {control control' : List ℕ} {r : ℕ} {x : Refusal} (q : RefusalNumber x r) where
  pub framer_idle_refuses : FramerIdle control r control' → Refuses13 r (lent control control' ∷ []) []
  framer_idle_refuses k = made_refuses k q

  pub hub_on_refuses : HubOn control r control' → Refuses13 r (lent control control' ∷ []) []
  hub_on_refuses k = made_refuses k q

  pub sender_idle_refuses : {failed : Bool} → SenderIdle control failed r control' → Refuses13 r (lent control control' ∷ []) []
  sender_idle_refuses k = made_refuses k q

  pub reader_on_refuses : ReaderOn control r control' → Refuses13 r (lent control control' ∷ []) []
  reader_on_refuses k = made_refuses k q

  pub reader_power_up_refuses : ReaderPowersUp control r control' → Refuses13 r (lent control control' ∷ []) []
  reader_power_up_refuses k = made_refuses k q

-- ---- calls that only read a control value

-- `mk_sender_waits`
pub sender_waits_refuses : {control : List ℕ} {r : ℕ} {x : Refusal} → SenderWaits control r → RefusalNumber x r → Refuses13 r [] []
sender_waits_refuses k q =
    by_asks k.asks (λ a. record { number = a; untouched = record { buffers_same = none; values_zero = none } }) (λ e a. waits_told a.out (told_as a.told q))

-- `mk_reader_value`
pub reader_value_refuses : {control : List ℕ} {number r value : ℕ} {x : Refusal} → ReaderValue control number r value → RefusalNumber x r → Refuses13 r [] (value ∷ [])
reader_value_refuses k q =
    by_asks k.asks (λ a. record { number = a.0; untouched = record { buffers_same = none; values_zero = zeros_1 a.1 } })
    (λ e a. not_told (told_as a.told q) (inl (omega arith)))

-- `mk_reader_switches`
pub reader_switches_refuses : {control values : List ℕ} {r : ℕ} {x : Refusal} → ReaderSwitches control r values → RefusalNumber x r → Refuses13 r [] values
reader_switches_refuses k q =
    by_asks k.asks (λ a. record { number = a.0; untouched = record { buffers_same = none; values_zero = zeros_4 a.1 } })
    (λ e a. not_told (told_as a.0 q) (inl (omega arith)))

-- `mk_reader_locked`
pub reader_locked_refuses : {control : List ℕ} {number r value : ℕ} {x : Refusal} → ReaderLocked control number r value → RefusalNumber x r → Refuses13 r [] (value ∷ [])
reader_locked_refuses k q =
    by_asks k.asks (λ a. record { number = a.0; untouched = record { buffers_same = none; values_zero = zeros_1 a.1 } })
    (λ e a. not_told (told_as a.told q) (inl (omega arith)))

-- ---- the saved set

-- `mk_reader_save`: the control value is only read.
one_untouched : {room room' : List ℕ} {value : ℕ} → room' ≡ room → value ≡ 0 → Untouched (lent room room' ∷ []) (value ∷ [])
one_untouched s v = record { buffers_same = one (same s) none; values_zero = zeros_1 v }

pub reader_save_refuses : {control room room' : List ℕ} {r size : ℕ} {x : Refusal} → ReaderSaves control room r room' size → RefusalNumber x r →
    Refuses13 r (lent room room' ∷ []) (size ∷ [])
reader_save_refuses k q =
    by_asks k.asks (λ a. record { number = a.0; untouched = one_untouched a.1 a.2 })
    (λ e a.
    let f = result_refused a.made (inr (omega arith)) (told_as a.told q) in
    let s = save_refused a.saves f in
    record { number = a.told ∙ rw (f, s.0) refl; untouched = one_untouched s.1 (a.value ∙ rw f refl) })

-- `mk_reader_load`: the form is only read.
unread_number : {r : ℕ} (o : Settled) → ((x : Refusal) → o ≡ unsettled x → x ≡ refusal.Form) → r ≡ settled_number o 13 → (r ≡ 12) ⊎ (r ≡ 13)
unread_number (done v) k e = inr e
unread_number (unsettled x) k e = inl (e ∙ ap number_of (k x refl))

load_untouched : {control control' : List ℕ} → control' ≡ control → Untouched (lent control control' ∷ []) []
load_untouched e = record { buffers_same = one (same e) none; values_zero = none }

pub reader_load_refuses : {control form control' : List ℕ} {r : ℕ} {x : Refusal} → ReaderLoads control form r control' → RefusalNumber x r → RefusesBy 12 13 r (lent control control' ∷ []) []
reader_load_refuses {form = form} k q =
    by_asks k.asks
    (λ a. record { number = unread_number (read_form edition1 form) (λ x f. read_refusal edition1 form f) a.0; untouched = load_untouched a.1 })
    (λ e a.
    let f = result_refused a.loaded (inl (omega arith)) (told_as a.told q) in
    record {
      number = inl (a.told ∙ rw (f, loading.refused_form a.loads f) refl);
      untouched = load_untouched (a.kept.control_is ∙ rw f refl);
    })

-- ---- a table that is kept as a struct

settled_refused : {A : Type 0} {n : ℕ} {x : Refusal} (o : Settled) → n ≡ settled_number o 0 → RefusalNumber x n → ((y : Refusal) → o ≡ unsettled y → A) → A
settled_refused (done v) e q k = not_told (told_as e q) (inl (omega arith))
settled_refused (unsettled y) e q k = k y refl

table_untouched : {k k' : MkTable} → k' ≡ k → Untouched (lent_table k k' ∷ []) []
table_untouched e = record { buffers_same = one (same_table e) none; values_zero = none }

list_number : {r : ℕ} {y : Refusal} → r ≡ number_of y → (y ≡ refusal.Data) ⊎ (y ≡ refusal.Setting) → (r ≡ 7) ⊎ (r ≡ 9)
list_number e (inl f) = inl (e ∙ ap number_of f)
list_number e (inr f) = inr (e ∙ ap number_of f)

pub table_set_refuses : {k k' : MkTable} {pairs : List ℕ} {forever : Bool} {r : ℕ} {x : Refusal} → SetsTable k pairs forever r k' → RefusalNumber x r → RefusesBy 7 9 r (lent_table k k' ∷ []) []
table_set_refuses {k} {pairs = pairs} {forever} p q =
    settled_refused (set_pairs forever (read_pairs pairs) (values_in k)) p.told q
    (λ y f.
    record {
      number = list_number (p.told ∙ rw f refl) (set_refusal forever (read_pairs pairs) (values_in k) f);
      untouched = table_untouched (refused_keeps p f);
    })

pub reader_table_refuses : {control : List ℕ} {k k' : MkTable} {r : ℕ} {x : Refusal} → TakesOut control k r k' → RefusalNumber x r → Refuses13 r (lent_table k k' ∷ []) []
reader_table_refuses p q =
    by_asks p.asks (λ a. record { number = a.0; untouched = table_untouched a.1 }) (λ e a. not_told (told_as a.0 q) (inl (omega arith)))

put_back_refused : {control control' : List ℕ} {k : MkTable} {r : ℕ} {x : Refusal} (d : Bool) → all_allowed k ≡ d → PutsInto control k r control' → RefusalNumber x r → RefusesBy 9 13 r (lent control control' ∷ []) []
put_back_refused true e a q = not_told {n = 0} (told_as (a.told ∙ rw e refl) q) (inl (omega arith))
put_back_refused false e a q = record { number = inl (a.told ∙ rw e refl); untouched = load_untouched (a.kept.control_is ∙ rw e refl) }

pub reader_put_table_refuses : {control control' : List ℕ} {k : MkTable} {r : ℕ} {x : Refusal} → PutsBack control k r control' → RefusalNumber x r → RefusesBy 9 13 r (lent control control' ∷ []) []
reader_put_table_refuses {k = k} p q =
    by_asks p.asks (λ a. record { number = inr a.0; untouched = load_untouched a.1 }) (λ e a. put_back_refused (all_allowed k) refl a q)

-- ---- starts

left_alone : {C : Type 0} {read : List ℕ → C} {bytes : C → List ℕ} {value : C} {control control' : List ℕ} {o : Outcome} {x : Refusal} → o ≡ outcome.Refused x →
    KeptUnless (is_refused o) read bytes value control control' → control' ≡ control
left_alone f k = k.control_is ∙ rw f refl

start_number : {r : ℕ} {x : Refusal} (short : Bool) → RefusalNumber x r → x ≡ pick short refusal.Room refusal.Start → (r ≡ 11) ⊎ (r ≡ 13)
start_number true q e = inr (q.is ∙ ap number_of e)
start_number false q e = inl (q.is ∙ ap number_of e)

start_untouched : {control control' buffer buffer' room room' values : List ℕ} → control' ≡ control → buffer' ≡ buffer → room' ≡ room → values ≡ 0 ∷ 0 ∷ [] →
    Untouched (lent control control' ∷ lent buffer buffer' ∷ lent room room' ∷ []) values
start_untouched c b s v = record { buffers_same = one (same c) (one (same b) (one (same s) none)); values_zero = zeros_2 v }

-- `mk_sender_start`
pub sender_start_refuses : {control buffer room message control' buffer' room' values : List ℕ} {code r : ℕ} {x : Refusal} →
    SenderStarts control buffer room code message r control' buffer' room' values →
    RefusalNumber x r →
    RefusesBy 11 13 r (lent control control' ∷ lent buffer buffer' ∷ lent room room' ∷ []) values
sender_start_refuses {room = room} k q =
    by_asks k.asks (λ a. record { number = inr a.0; untouched = start_untouched a.1 a.2 a.3 a.4 })
    (λ e a.
    let f = outcome_refused a.sent.outcome (told_as a.begins.told q) in
    let s = sending.start_refuses a.starts f in
    record {
      number = start_number (ltb (length room) 257) q s.number;
      untouched = start_untouched (left_alone f a.kept) s.buffer_same s.room_same (a.begins.values_are ∙ ap start_values f);
    })

-- `mk_reader_start`
pub reader_start_refuses : {control message copy bytes control' message' copy' values : List ℕ} {code r : ℕ} {x : Refusal} →
    ReaderStarts control message copy code bytes r control' message' copy' values →
    RefusalNumber x r →
    RefusesBy 11 13 r (lent control control' ∷ lent message message' ∷ lent copy copy' ∷ []) values
reader_start_refuses {copy = copy} k q =
    by_asks k.asks (λ a. record { number = inr a.0; untouched = start_untouched a.1 a.2 a.3 a.4 })
    (λ e a.
    let f = outcome_refused a.started.outcome (told_as a.begins.told q) in
    let s = reading-refuses.start_refuses a.starts f in
    record {
      number = start_number (ltb (length copy) 257) q s.number;
      untouched = start_untouched (left_alone f a.kept) s.buffer_same s.room_same (a.begins.values_are ∙ ap start_values f);
    })

-- ---- answers and time-outs

second_enough : {n m : ℕ} {c s : List ℕ} → Enough (at_least n c ∷ at_least m s ∷ []) → m ≤ length s
second_enough (more c (more l no_more)) = l

two_untouched : {control control' room room' : List ℕ} {value : ℕ} → control' ≡ control → room' ≡ room → value ≡ 0 →
    Untouched (lent control control' ∷ lent room room' ∷ []) (value ∷ [])
two_untouched c s v = record { buffers_same = one (same c) (one (same s) none); values_zero = zeros_1 v }

-- `mk_sender_hear`: the message buffer is only read.
pub sender_hear_refuses : {control buffer room control' room' : List ℕ} {n r value : ℕ} {x : Refusal} → SenderHears control buffer room n r control' room' value → RefusalNumber x r →
    Refuses13 r (lent control control' ∷ lent room room' ∷ []) (value ∷ [])
sender_hear_refuses k q =
    by_asks k.asks (λ a. record { number = a.0; untouched = two_untouched a.1 a.2 a.3 })
    (λ e a.
    let f = outcome_refused a.sent.outcome (told_as a.brings.told q) in
    let h = sending.hear_short a.hears f in
    let l = second_enough e in
    absurd (omega arith))

-- `mk_reader_time_out`
pub reader_time_out_refuses : {control message copy control' copy' : List ℕ} {r value : ℕ} {x : Refusal} → ReaderTimesOut control message copy r control' copy' value → RefusalNumber x r →
    Refuses13 r (lent control control' ∷ lent copy copy' ∷ []) (value ∷ [])
reader_time_out_refuses k q =
    by_asks k.asks (λ a. record { number = a.0; untouched = two_untouched a.1 a.2 a.3 })
    (λ e a.
    let f = outcome_refused a.started.outcome (told_as a.brings.told q) in
    let h = sending.hear_short a.times.hears (sym (ap (λ (s : Started). s.outcome) a.times.is) ∙ f) in
    let l = second_enough e in
    absurd (omega arith))

-- ---- events

-- Room enough is not 13.
not_13 : {small : Bool} {r : ℕ} {x : Refusal} → RefusalNumber x r → small ≡ false → small ≡ eqb (number_of x) 13 → r ≡ 13 → ⊥
not_13 {x = x} q s e z = let y = sym s ∙ (e ∙ eq-eqb (number_of x) 13 (sym q.is ∙ z)) in never (cc)

framer_room : {control line : List ℕ} → Enough (at_least 9 control ∷ at_least 257 line ∷ []) → ltb (length line) 257 ≡ false
framer_room {line = line} (more c (more l no_more)) = le-ltb (length line) 257 l

pub hub_room : {control answer message : List ℕ} → Enough (at_least 29 control ∷ at_least 7 answer ∷ at_least 4096 message ∷ []) → joining.too_small answer message ≡ false
unfolding joining.too_small
hub_room {answer = answer} {message} (more c (more a (more m no_more))) = simp (le-ltb (length answer) 7 a, le-ltb (length message) 4096 m)

pub reader_room : {control answer copy : List ℕ} → Enough (at_least reader_control_size control ∷ at_least 25 answer ∷ at_least 257 copy ∷ []) → reading.too_small answer copy ≡ false
unfolding reading.too_small
reader_room {answer = answer} {copy} (more c (more a (more l no_more))) = simp (le-ltb (length answer) 25 a, le-ltb (length copy) 257 l)

-- `mk_framer_hear`
pub framer_hear_refuses : {control line control' line' head : List ℕ} {n r : ℕ} {x : Refusal} → FramerHears control line n r control' line' head → RefusalNumber x r →
    EventRefuses r (lent control control' ∷ lent line line' ∷ []) head (FramerTaken x n control control' line line' head)
framer_hear_refuses k q =
    by_asks k.asks
    (λ a.
    record {
      by_13 = λ z. record { buffers_same = one (same a.1) (one (same a.2) none); values_zero = zeros_4 a.3 };
      by_others = λ h. absurd (h a.0);
    })
    (λ e n.
    by_named q n (λ a. a.0)
    (λ a.
    let f = found_refused a.framed.found (told_as a.told q) in
    let g = framing.hear_refuses a.frames f in
    record {
      by_13 = λ z. absurd (not_13 q (framer_room e) g.number_13 z);
      by_others = λ h. record { framed = a.framed; kept = a.kept; refuses = g; values_are = a.values ∙ ap found_values f };
    }))

-- `mk_hub_hear`
pub hub_hear_refuses : {control line gather answer message control' line' gather' answer' message' values : List ℕ} {n r : ℕ} {x : Refusal} →
    HubHears control line gather answer message n r control' line' gather' answer' message' values →
    RefusalNumber x r →
    EventRefuses r (lent control control' ∷ lent line line' ∷ lent gather gather' ∷ lent answer answer' ∷ lent message message' ∷ []) values
    (HubTaken x n control control' line line' gather gather' answer answer' message message' values)
hub_hear_refuses k q =
    by_asks k.asks
    (λ a.
    record {
      by_13 =
          λ z.
          record { buffers_same = one (same a.1) (one (same a.2) (one (same a.3) (one (same a.4) (one (same a.5) none)))); values_zero = zeros_3 a.6 };
      by_others = λ h. absurd (h a.0);
    })
    (λ e n.
    by_named q n (λ a. a.0)
    (λ a.
    let f = hub_refused a.taken.told (told_as a.told q) in
    let g = joining-refuses.hear_refuses a.hears f in
    record {
      by_13 = λ z. absurd (not_13 q (hub_room e) g.number_13 z);
      by_others = λ h. record { taken = a.taken; kept = a.kept; refuses = g; values_are = a.values_are ∙ ap (λ (t : Told). hub_values t a.taken.answer) f };
    }))

-- `mk_hub_hear_block`: the bytes are only read.
one_or_two : {n : ℕ} (d : Bool) → eqb n 1 ≡ d → 1 ≤ n → n < 3 → (n ≡ 1) ⊎ (n ≡ 2)
one_or_two {n} true e l m = inl (eqb-true n 1 e)
one_or_two {n} false e l m = inr (let h = eqb-false n 1 e in omega arith)

by_refused : {P : Type 0} {r : ℕ} {x : Refusal} {block : Block} → RefusalNumber x r → BlockRefused x block → ((r ≡ 13) ⊎ (r ≡ 15) → block.taken ≡ 0 → P) →
    ((r ≡ 1) ⊎ (r ≡ 2) → (block.taken ≡ 0 → ⊥) → P) → P
by_refused q (at_once (inl n) z) out behind = out (inl (q.is ∙ n)) z
by_refused q (at_once (inr n) z) out behind = out (inr (q.is ∙ n)) z
by_refused {r = r} {x} q (behind_a_byte l z) out behind = behind (let m = number_least x in let e = q.is in one_or_two (eqb r 1) refl (omega arith) (omega arith)) z

block_untouched : {control control' line line' gather gather' answer answer' message message' values : List ℕ} →
    control' ≡ control →
    line' ≡ line →
    gather' ≡ gather →
    answer' ≡ answer →
    message' ≡ message →
    values ≡ 0 ∷ 0 ∷ 0 ∷ 0 ∷ [] →
    Untouched (lent control control' ∷ lent line line' ∷ lent gather gather' ∷ lent answer answer' ∷ lent message message' ∷ []) values
block_untouched c l g a m v = record { buffers_same = one (same c) (one (same l) (one (same g) (one (same a) (one (same m) none)))); values_zero = zeros_4 v }

pub hub_hear_block_refuses : {control line gather answer message bytes control' line' gather' answer' message' values : List ℕ} {r : ℕ} {x : Refusal} →
    HubHearsBlock control line gather answer message bytes r control' line' gather' answer' message' values →
    RefusalNumber x r →
    BlockRefuses r (lent control control' ∷ lent line line' ∷ lent gather gather' ∷ lent answer answer' ∷ lent message message' ∷ []) values
    (BlockTaken x bytes control control' line line' gather gather' answer answer' message message' values)
hub_hear_block_refuses k q =
    by_asks k.asks (λ a. not_taken (inl a.0) (block_untouched a.1 a.2 a.3 a.4 a.5 a.6))
    (λ e a.
    let f = hub_refused a.block.told (told_as a.told q) in
    let v = a.values_are ∙ ap (λ (t : Told). block_values t a.block.answer a.block.taken) f in
    by_refused q (block_refused a.hears f)
    (λ n z.
    let s = none_taken a.hears z in
    not_taken n
    (block_untouched (a.kept.control_is ∙ simp (eq-eqb a.block.taken 0 z)) s.line_same s.gather_same s.answer_same s.message_same (v ∙ rw (s.no_answer, z) refl)))
    (λ n h.
    was_taken n
    (record {
      block = a.block;
      hears = a.hears;
      kept = rw (ne_eqb a.block.taken 0 h) at a.kept;
      refuses = f;
      some = omega arith;
      values_are = v;
    })))

quiet_values : (before after : Reader) {t : Commanded} {o : Outcome} {answer : ℕ} {values : List ℕ} {x : Refusal} → t ≡ commanded.Refused x → o ≡ outcome.Nothing → after.device ≡ before.device →
    values ≡ reader_values t answer o (permanent_changed before after) → values ≡ answer ∷ 0 ∷ 0 ∷ 0 ∷ 0 ∷ 0 ∷ []
unfolding reader_values permanent_changed
quiet_values before after f s d e = e ∙ rw (f, s, d, same_refl before.device.table.permanent) refl

-- `mk_reader_hear`: the message buffer is only read.
pub reader_hear_refuses : {control line answers message answer copy control' line' answers' answer' copy' values : List ℕ} {n r : ℕ} {x : Refusal} →
    ReaderHears control line answers message answer copy n r control' line' answers' answer' copy' values →
    RefusalNumber x r →
    EventRefuses r (lent control control' ∷ lent line line' ∷ lent answers answers' ∷ lent answer answer' ∷ lent copy copy' ∷ []) values
    (ReaderTaken x n control control' line line' answers answers' message answer answer' copy copy' values)
reader_hear_refuses {control} k q =
    by_asks k.asks
    (λ a.
    record {
      by_13 =
          λ z.
          record { buffers_same = one (same a.1) (one (same a.2) (one (same a.3) (one (same a.4) (one (same a.5) none)))); values_zero = zeros_6 a.6 };
      by_others = λ h. absurd (h a.0);
    })
    (λ e n.
    by_named q n (λ a. a.0)
    (λ a.
    let f = reader_refused a.taken.told a.taken.outcome (reading-refuses.hear_unrefused a.hears) (told_as a.told q) in
    let g = reading-refuses.hear_refuses a.hears f in
    record {
      by_13 = λ z. absurd (not_13 q (reader_room e) g.number_13 z);
      by_others = λ h. record { taken = a.taken; kept = a.kept; refuses = g; values_are = quiet_values (reader_in control) a.taken.reader f g.nothing_sent g.device_same a.values_are };
    }))
