-- Demand 1 at the hub, from the call's contract alone: any control value, any buffers, any event. Assumes nothing.
use Prim.Native.Nat.{ℕ}
use mathlib.Core.Path.{◌≡◌, refl, sym, ap, ◌∙◌}
use mathlib.Core.Bool.{Bool, true, false}
use mathlib.Core.List.{List}
use lib.Dec.{eqb}
use Rattle.words.specs.Lists.{pick, over}
use Rattle.words.proofs.Lists.{over_nil, never}
use Rattle.packet.specs.Refusals.{number_of, nak_bytes}
use Rattle.packet.specs.declared.Refusal.{Refusal}
use Rattle.packet.specs.declared.Refusal.TheVariants.{Room}
use Rattle.packet.proofs.Theorems.{answered_number}
use Rattle.framer.specs.Behind.{framed}
use Rattle.framer.specs.Halves.{buffer_after}
use Rattle.framer.specs.Untouched.{as_it_was}
use Rattle.framer.specs.declared.Event.{Event}
use Rattle.framer.proofs.Touching.{line_kept}
use Rattle.hub.specs.Joiner.{none, Joiner, refusing, bytes_of}
use Rattle.hub.specs.Hub.{heard_step, hub_step}
use Rattle.hub.specs.Promises.{told_of, sound_of, joiner_of, state_of, too_small, Hears}
use Rattle.hub.specs.Refused.{HubRefuses}
use Rattle.hub.specs.declared.Hub.{Hub}
use Rattle.hub.specs.declared.Taken.{Taken}
use Rattle.hub.specs.declared.Told.TheVariants as told
use Rattle.hub.proofs.Control.{refusing_answers, refusing_hands_out}
use Rattle.hub.proofs.Joining.{gathered_over}
use Rattle.hub.proofs.Theorems.{happened, refusal_named, refusal_changes, refusal_cause}

-- ---- the gather buffer

dropped_over : (x : Refusal) (j : Joiner) (gather : List ℕ) (bars : Bool) → eqb (number_of x) 10 ≡ bars → over (bytes_of j.gathered) gather ≡ gather →
    over (bytes_of (pick (eqb (number_of x) 10) (record { barred = true; last = j.last; gathered = none }) j).gathered) gather ≡ gather
unfolding bytes_of
dropped_over x j gather true e k = simp e (over_nil gather)
dropped_over x j gather false e k = simp e k

module _ (hub : Hub) (line gather : List ℕ) (e : Event) {x : Refusal} (q : (hub_step (state_of hub line gather) e).told ≡ refusing x) where
  gather_over : over (bytes_of (framed heard_step (state_of hub line gather) e).next.core.gathered) gather ≡ gather
  unfolding hub_step framed state_of joiner_of
  gather_over =
      rw (happened (state_of hub line gather) e q).next_is
      (dropped_over x (state_of hub line gather).core gather (eqb (number_of x) 10) refl (gathered_over (sound_of hub.gathering) gather))

-- ---- a refused event

module _ {hub : Hub} {line gather answer message : List ℕ} {e : Event} {r : Taken} {line' gather' answer' message' : List ℕ} {x : Refusal}
    (k : Hears hub line gather answer message e r line' gather' answer' message') (q : r.told ≡ told.Refused x) where
  refuses_by : (small : Bool) → too_small answer message ≡ small → HubRefuses x e hub r line line' gather gather' answer answer' message message'
  unfolding over nak_bytes
  refuses_by true s =
      let i = simp s at k.is in
      let f : Room ≡ x = cc in
      let line_same : line' ≡ line = k.line_is ∙ simp s in
      let answer_same : answer' ≡ answer = k.answer_is ∙ simp s in
      rw (← f)
      (record {
        number_13 = simp s;
        no_message = k.message_is ∙ simp s;
        gather_same = k.gather_is ∙ simp s;
        line_kept = record { last_packet = rw line_same refl; receiving = as_it_was line_same };
        answer_is = answer_same;
        count_is = ap (λ (a : Taken). a.answer) i;
        state_is = k.next ∙ simp s;
        not_taken = λ _. (ap (λ (a : Taken). a.hub) i, line_same, answer_same);
      })
  refuses_by false s =
      let i = simp s at k.is in
      let t : told_of (hub_step (state_of hub line gather) e).told ≡ told.Refused x = cc in
      let p = refusal_named (state_of hub line gather) e t in
      let n = answered_number x (refusal_cause (state_of hub line gather) e p) in
      let line_is : line' ≡ buffer_after hub.line line e = k.line_is ∙ simp s in
      record {
        number_13 = simp (s, n);
        no_message = k.message_is ∙ simp (s, p, refusing_hands_out x);
        gather_same = k.gather_is ∙ simp s (gather_over hub line gather e p);
        line_kept = rw line_is (line_kept hub.line line e);
        answer_is = k.answer_is ∙ simp (s, p, refusing_answers x);
        count_is = ap (λ (a : Taken). a.answer) i ∙ simp (p, refusing_answers x);
        state_is = k.next ∙ simp (s, n, refusal_changes (state_of hub line gather) e p);
        not_taken = λ f. let z : eqb (number_of Room) 13 ≡ false = ap (λ (y : Refusal). eqb (number_of y) 13) (sym f) ∙ n in never (cc);
      }

  -- A refused event at the hub.
  pub hear_refuses : HubRefuses x e hub r line line' gather gather' answer answer' message message'
  hear_refuses = refuses_by (too_small answer message) refl
