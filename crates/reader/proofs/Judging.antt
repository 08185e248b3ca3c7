-- One law for each answer of `perform`, `known` and `judge`: what a command leaves in the control value, the buffers and the rooms. Assumes nothing.
use Prim.Native.Nat.{ℕ, ◌≤◌}
use mathlib.Core.Path.{◌≡◌, refl, sym, ◌∙◌}
use mathlib.Core.Bool.{Bool, true, false}
use mathlib.Core.List.{List, [], ◌∷◌, ◌++◌, map}
use lib.ListN.{length, get_or, take}
use Rattle.std.proofs.Common.{Option, Some, None, Ok, Err}
use lib.Seq.{length-take-le}
use borrow.Author.Tests.{eq-eqb, ne_eqb}
use Rattle.words.specs.Machine.{given}
use Rattle.words.proofs.Lists.{over_nil, over_take, never}
use Rattle.packet.specs.Opcodes.{host}
use Rattle.packet.specs.Packet.{data_in}
use Rattle.packet.specs.Promises.{DataPart, Allowed, Resent}
use Rattle.packet.specs.declared.Refusal.{Refusal}
use Rattle.packet.specs.declared.Refusal.TheVariants as refusal
use Rattle.sender.specs.Promises.{name_of, copy_of}
use Rattle.commands.specs.Commands.{DeviceState, length_allowed, Acted, denied, acted, judged}
use Rattle.commands.specs.Promises.{beep_of, device_of, device_from, Names, LengthAllowed, commanded_of, Commands}
use Rattle.commands.specs.declared.Command.{Command}
use Rattle.commands.specs.declared.Acted.{Acted as ActedOn}
use Rattle.commands.proofs.Theorems.{told_denied}
use Rattle.reader.specs.Reader.{CoreState, Output, beeped, switched, answered, refuses, answer_to, acts, command_step, known_step, named_step, judged_step}
use Rattle.reader.specs.Promises.{told_of, answer_of, sent_of, core_of, Steps, Leaves, Judges, Performs, Again, Acts}
use Rattle.reader.specs.declared.Told.TheVariants as told
use Rattle.reader.specs.declared.Core.{Core}
use Rattle.reader.specs.declared.Stepped.{Stepped}
use Rattle.reader.proofs.Answering.{answer_answering, sent_answering}

-- ---- what is told of a command

abbrev done_told : List (List ℕ) → DeviceState → List ℕ → List Output
done_told rows d bytes = map beeped rows ++ (switched d ∷ given answered bytes)

done_told_lem : (rows : List (List ℕ)) (d : DeviceState) (bytes : List ℕ) → told_of (done_told rows d bytes) ≡ told.Acted (beep_of rows)
unfolding told_of beep_of
done_told_lem [] d bytes = refl
done_told_lem (row ∷ rows) d bytes = refl

done_answer : (rows : List (List ℕ)) (d : DeviceState) (bytes : List ℕ) → answer_of (done_told rows d bytes) ≡ bytes
unfolding answer_of
done_answer [] d bytes = answer_answering bytes
done_answer (row ∷ rows) d bytes = done_answer rows d bytes

pub done_sent : (rows : List (List ℕ)) (d : DeviceState) (bytes : List ℕ) → sent_of (done_told rows d bytes) ≡ []
unfolding sent_of
done_sent [] d bytes = sent_answering bytes
done_sent (row ∷ rows) d bytes = done_sent rows d bytes

-- ---- `perform`

-- A command is done as it tells.
done_by : (c : Core) (body last answers answer message copy : List ℕ) (k : Command) (act : Acted) {m : ActedOn} {r : Stepped} {answers' answer' : List ℕ} →
    Ok m ≡ commanded_of act → Acts c m k (data_in body) answers answer r answers' answer' →
    Steps (acts (core_of c last answers message) k body act) c.sender answers answer copy r answers' answer' copy
unfolding acts core_of commanded_of name_of copy_of
done_by c body last answers answer message copy k (denied x) q p = never (cc)
done_by c body last answers answer message copy k (acted next rows) {m} q p =
    let bytes : List ℕ = answer_to (device_of c.device) k (data_in body) in
    let same : m ≡ record { device = device_from next; beep = beep_of rows } = cc in
    record {
      told_is = rw (p.is, done_told_lem rows next bytes, same) refl;
      count_is = rw (p.is, done_answer rows next bytes) refl;
      outcome_is = rw (p.is, done_sent rows next bytes) refl;
      core_is = rw (p.is, same) refl;
      answers_is = p.answers_is;
      answer_is = rw (done_answer rows next bytes) p.answer_is;
      copy_is = rw (done_sent rows next bytes) (sym (over_nil copy));
    }

module _ {c : Core} {k : Command} {status : ℕ} {carried answers answer answer' : List ℕ} {r : Stepped} where
  pub performs_denied : {x : Refusal} → c.last_answer ≤ length answers → Commands (judged (device_of c.device) k status carried) (Err x) → Leaves (λ (s : CoreState). refuses s x) c answer r answer' →
      Performs c k status carried answers answer r answers answer'
  unfolding acts core_of
  performs_denied few p l =
      let a = told_denied (judged (device_of c.device) k status carried) (sym p.is) in
      record { steps = λ body last message copy q. rw a (l.steps last answers message copy few) }

  pub performs_done : {answers' : List ℕ} {m : ActedOn} → Commands (judged (device_of c.device) k status carried) (Ok m) → Acts c m k carried answers answer r answers' answer' →
      Performs c k status carried answers answer r answers' answer'
  performs_done p l =
      record {
        steps = λ body last message copy q. done_by c body last answers answer message copy k (judged (device_of c.device) k status carried) p.is (rw q at l);
      }

-- ---- `known`

fitting : {k : Command} {body carried : List ℕ} {t : Bool} → DataPart body carried → LengthAllowed k carried t → length_allowed k (data_in body) ≡ t
fitting d p = rw (← d.is) (sym p.is)

module _ {c : Core} {k : Command} {body carried last answers answer answer' : List ℕ} {t : Bool} {r : Stepped} (few : c.last_answer ≤ length answers) (d : DataPart body carried)
    (p : LengthAllowed k carried t) where
  pub known_data : t ≡ false → Leaves (λ (s : CoreState). refuses s refusal.Data) c answer r answer' → Judges (known_step k) c body last answers answer r answers answer'
  unfolding known_step
  known_data f l = record { steps = λ message copy. simp (fitting d p ∙ f) (l.steps last answers message copy few) }

  module _ {b : Bool} (e : t ≡ true) (s : Resent last body b) where
    pub known_again : b ≡ true → Again c answers answer r answer' → Judges (known_step k) c body last answers answer r answers answer'
    unfolding known_step command_step core_of told_of answer_of sent_of name_of copy_of
    known_again f a =
        let bytes : List ℕ = take c.last_answer answers in
        let long : length bytes ≡ c.last_answer = length-take-le c.last_answer answers few in
        record {
          steps = λ message copy.
              simp (fitting d p ∙ e, sym s.is ∙ f)
              (record {
                told_is = rw a.is refl;
                count_is = rw (a.is, answer_answering bytes, long) refl;
                outcome_is = rw (a.is, sent_answering bytes) refl;
                core_is = rw (a.is, long) refl;
                answers_is = sym (over_take c.last_answer answers);
                answer_is = rw (answer_answering bytes) a.answer_is;
                copy_is = rw (sent_answering bytes) (sym (over_nil copy));
              });
        }

    -- 7 is right, so the command's own verdict is by 8 and 9 alone.
    pub known_performs : {answers' : List ℕ} → b ≡ false → Performs c k (get_or body 3 0) carried answers answer r answers' answer' →
        Judges (known_step k) c body last answers answer r answers' answer'
    unfolding known_step command_step core_of judged
    known_performs f q =
        record {
          steps = λ message copy.
              simp (fitting d p ∙ e, sym s.is ∙ f) (rw (← d.is) (simp (sym p.is ∙ e) at (q.steps body last message copy d.is)));
        }

-- ---- `judge`

module _ {c : Core} {body last answers answer answer' : List ℕ} {r : Stepped} (few : c.last_answer ≤ length answers) where
  pub judges_source : (get_or body 2 0 ≡ host → ⊥) → Leaves (λ (s : CoreState). refuses s refusal.Source) c answer r answer' →
      Judges judged_step c body last answers answer r answers answer'
  unfolding judged_step
  judges_source h k = record { steps = λ message copy. simp (ne_eqb (get_or body 2 0) host h) (k.steps last answers message copy few) }

  module _ {a : Bool} (s : get_or body 2 0 ≡ host) (w : Allowed (get_or body 1 0) (get_or body 3 0) a) where
    pub judges_status : a ≡ false → Leaves (λ (s : CoreState). refuses s refusal.Status) c answer r answer' → Judges judged_step c body last answers answer r answers answer'
    unfolding judged_step
    judges_status e k = record { steps = λ message copy. simp (eq-eqb (get_or body 2 0) host s, sym w.is ∙ e) (k.steps last answers message copy few) }

    module _ {n : Option Command} (e : a ≡ true) (p : Names (get_or body 1 0) n) where
      pub judges_opcode : n ≡ None → Leaves (λ (s : CoreState). refuses s refusal.Opcode) c answer r answer' → Judges judged_step c body last answers answer r answers answer'
      unfolding judged_step named_step
      judges_opcode f k =
          record { steps = λ message copy. simp (eq-eqb (get_or body 2 0) host s, sym w.is ∙ e, sym p.is ∙ f) (k.steps last answers message copy few) }

      pub judges_known : {k : Command} {answers' : List ℕ} → n ≡ Some k → Judges (known_step k) c body last answers answer r answers' answer' →
          Judges judged_step c body last answers answer r answers' answer'
      unfolding judged_step named_step
      judges_known f q = record { steps = λ message copy. simp (eq-eqb (get_or body 2 0) host s, sym w.is ∙ e, sym p.is ∙ f) (q.steps message copy) }
