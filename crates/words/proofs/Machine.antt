-- Laws of runs. Assumes nothing.
use Prim.Native.Nat.{suc, ◌+◌, ◌≤◌}
use mathlib.Core.Bool.{Bool, true, false}
use mathlib.Core.Path.{◌≡◌, refl, sym, ap, ◌∙◌}
use mathlib.Core.List.{List, [], ◌∷◌, ◌++◌, append_assoc, append-nil}
use native.Mathlib.Nat.{zero-add}
use native.Mathlib.Omega.{arith}
use lib.ListN.{length}
use Rattle.words.specs.Lists.{pick, Each, none, one}
use Rattle.words.specs.Machine.{Done, after, through, reach}
use Rattle.words.proofs.Lists.{never}

-- A run over two lists is the run over the first and then, from where it ended, over the second.
pub through_append : {S I O : Type 0} (step : S → I → Done S O) (s : S) (xs ys : List I) →
    through step s (xs ++ ys) ≡ after (through step s xs).told (through step (through step s xs).next ys)
unfolding through after
through_append step s [] ys = refl
through_append step s (x ∷ xs) ys = rw (through_append step (step s x).next xs ys) (rw append_assoc refl)

-- A run over one input is the step.
pub through_one : {S I O : Type 0} (step : S → I → Done S O) (s : S) (i : I) → through step s (i ∷ []) ≡ step s i
unfolding through after
through_one {O = O} step s i = ap (λ (t : List O). record { next = (step s i).next; told = t }) (append-nil (step s i).told)

-- ---- how far a run goes that stops

-- Nothing in both.
pub append_none : {A : Type 0} {xs ys : List A} → xs ++ ys ≡ [] → (xs ≡ []) × (ys ≡ [])
append_none {xs = []} e = (refl, e)
append_none {xs = x ∷ xs} e = never (cc)

module _ {S I O : Type 0} (step : S → I → Done S O) (stops : List O → Bool) where
  pub reach_stopped : (s : S) (told : List O) (is : List I) → stops told ≡ true → reach step stops s told is ≡ 0
  unfolding reach
  reach_stopped s told [] e = refl
  reach_stopped s told (i ∷ is) e = simp e

  pub reach_one : (s : S) (told : List O) (i : I) (is : List I) → stops told ≡ false → reach step stops s told (i ∷ is) ≡ suc (reach step stops (step s i).next (told ++ (step s i).told) is)
  unfolding reach
  reach_one s told i is e = simp e

  -- Inputs of which nothing is told are taken.
  pub reach_silent : (s s' : S) (told : List O) (is js : List I) → stops told ≡ false → through step s is ≡ record { next = s'; told = [] } →
      reach step stops s told (is ++ js) ≡ length is + reach step stops s' told js
  unfolding through after
  reach_silent s s' told [] js e r = rw (ap (λ (d : Done S O). d.next) r) (sym (zero-add (reach step stops s' told js)))
  reach_silent s s' told (i ∷ is) js e r =
      let t = append_none {xs = (step s i).told} {ys = (through step (step s i).next is).told} (ap (λ (d : Done S O). d.told) r) in
      let same : through step (step s i).next is ≡ record { next = s'; told = [] } = rw (← ap (λ (d : Done S O). d.next) r, ← t.1) refl in
      let rest = reach_silent (step s i).next s' told is js e same in
      let one : reach step stops s told (i ∷ is ++ js) ≡ suc (reach step stops (step s i).next told (is ++ js)) = reach_one s told i (is ++ js) e ∙ rw (t.0, append-nil told) refl in
      omega (arith, one, rest)

  pub reach_most : (s : S) (told : List O) (is : List I) → reach step stops s told is ≤ length is
  unfolding reach
  reach_most s told [] = omega arith
  reach_most s told (i ∷ is) = by (stops told) (reach_most (step s i).next (told ++ (step s i).told) is)
    where
      by : (d : Bool) → reach step stops (step s i).next (told ++ (step s i).told) is ≤ length is →
          pick d 0 (suc (reach step stops (step s i).next (told ++ (step s i).told) is)) ≤ suc (length is)
      by true h = omega arith
      by false h = omega arith

-- ---- what holds of each

pub each_all : {A : Type 0} {P : A → Type 0} → ((x : A) → P x) → (xs : List A) → Each P xs
each_all f [] = none
each_all f (x ∷ xs) = one (f x) (each_all f xs)

pub each_append : {A : Type 0} {P : A → Type 0} {xs ys : List A} → Each P xs → Each P ys → Each P (xs ++ ys)
each_append none q = q
each_append (one h p) q = one h (each_append p q)

pub each_so : {A : Type 0} {P Q : A → Type 0} {xs : List A} → ((x : A) → P x → Q x) → Each P xs → Each Q xs
each_so f none = none
each_so f (one {x} h k) = one (f x h) (each_so f k)

-- What each step of a machine keeps, a run keeps; and what holds of each output of a step holds of each output of a run.
module _ {S I O : Type 0} (step : S → I → Done S O) (State : S → Type 0) (Input : I → Type 0) (Output : O → Type 0)
    (keeps : (s : S) (i : I) → Input i → State s → State (step s i).next × Each Output (step s i).told) where
  pub run_keeps : {is : List I} (s : S) → Each Input is → State s → State (through step s is).next × Each Output (through step s is).told
  unfolding through after
  run_keeps s none p = (p, none)
  run_keeps s (one {x} a rest) p =
      let first = keeps s x a p in
      let behind = run_keeps (step s x).next rest first.0 in
      (behind.0, each_append first.1 behind.1)
