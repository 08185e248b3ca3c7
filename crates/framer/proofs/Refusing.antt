-- Demand 1 at the framer, from the call's contract alone: any control value, any line buffer, any event. Assumes nothing.
use Prim.Native.Nat.{ℕ}
use mathlib.Core.Path.{◌≡◌, refl, sym, ap, ◌∙◌}
use mathlib.Core.Bool.{Bool, true, false}
use mathlib.Core.List.{List, []}
use native.Mathlib.Omega.{arith}
use lib.Dec.{eqb, ltb}
use lib.ListN.{length}
use Rattle.words.specs.Lists.{pick}
use Rattle.words.specs.Machine.{Done}
use Rattle.words.proofs.Lists.{never}
use Rattle.packet.specs.Refusals.{number_of, cause_of}
use Rattle.packet.specs.declared.Refusal.{Refusal}
use Rattle.packet.specs.declared.Refusal.TheVariants as refusal
use Rattle.packet.proofs.Theorems.{answered_number}
use Rattle.framer.specs.Framer.{Line, hearing, deaf, Heard, framer_step}
use Rattle.framer.specs.Promises.{line_of, control_of, found_of, framed_of, line_after, Frames}
use Rattle.framer.specs.Refused.{FramerRefuses}
use Rattle.framer.specs.Untouched.{as_it_was}
use Rattle.framer.specs.declared.Event.{Event}
use Rattle.framer.specs.declared.Framer.{Framer}
use Rattle.framer.specs.declared.Found.TheVariants.{Refused}
use Rattle.framer.specs.declared.Framed.{Framed}
use Rattle.framer.proofs.Outcomes.{Brings, nothing, cut, low, wrong, whole, brings}
use Rattle.framer.proofs.Touching.{line_at_most}

-- What a refusal of the framer leaves: it is answered, so not 13.
record Turned (x : Refusal) (next : Line) : Type 0 where
  next_is : next ≡ pick (ltb (number_of x) 3) deaf (hearing [])
  cause : cause_of x ≡ 0 → ⊥

turned : {l : Line} {e : Event} {d : Done Line Heard} {x : Refusal} → Brings l e d → found_of d.told ≡ Refused x → Turned x d.next
unfolding found_of
turned nothing q = never (cc)
turned {x = x} cut q = let f : refusal.Cut ≡ x = cc in rw (← f) (record { next_is = refl; cause = λ z. omega arith })
turned {x = x} low q = let f : refusal.Length ≡ x = cc in rw (← f) (record { next_is = refl; cause = λ z. omega arith })
turned {x = x} wrong q = let f : refusal.Checksum ≡ x = cc in rw (← f) (record { next_is = refl; cause = λ z. omega arith })
turned (whole h) q = never (cc)

module _ {f : Framer} {line line' : List ℕ} {e : Event} {r : Framed} {x : Refusal} (k : Frames f line e r line') (q : r.found ≡ Refused x) where
  refuses_by : (small : Bool) → ltb (length line) 257 ≡ small → FramerRefuses x e f r line line'
  unfolding framed_of line_after
  refuses_by true s =
      let i = simp s at k.is in
      let y : refusal.Room ≡ x = cc in
      let line_same : line' ≡ line = k.line_is ∙ simp s in
      let framer-same = ap (λ (a : Framed). a.framer) i in
      rw (← y) (record { number_13 = simp s; line_kept = as_it_was line_same; control_is = framer-same; not_taken = λ _. (framer-same, line_same) })
  refuses_by false s =
      let i = simp s at k.is in
      let t : found_of (framer_step (line_of f line) e).told ≡ Refused x = cc in
      let d = turned (brings (line_of f line) e) t in
      let n = answered_number x d.cause in
      record {
        number_13 = simp (s, n);
        line_kept = rw k.line_is (line_at_most f line e);
        control_is = ap (λ (a : Framed). a.framer) i ∙ (ap control_of d.next_is ∙ simp n);
        not_taken = λ y. let z : eqb (number_of refusal.Room) 13 ≡ false = ap (λ (w : Refusal). eqb (number_of w) 13) (sym y) ∙ n in never (cc);
      }

  -- A refused event at the framer.
  pub hear_refuses : FramerRefuses x e f r line line'
  hear_refuses = refuses_by (ltb (length line) 257) refl
