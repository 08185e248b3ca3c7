-- What a call asks of what it is lent, and what it leaves in a control value's bytes: the vocabulary of every exported promise.
use Rattle.std.specs.Prelude.{ℕ, ◌<◌, ◌≤◌, Bool, true, false, List, [], ◌∷◌, ◌≡◌, length}
use Rattle.words.specs.Lists.{pick, over}

-- So many bytes at least are asked of a room or a control value.
pub data Need : Type 0 where
  at_least : ℕ → List ℕ → Need

-- One of them is too small; none is.
pub data Lacking : List Need → Type 0 where
  here : {n : ℕ} {s : List ℕ} {needs : List Need} → length s < n → Lacking (at_least n s ∷ needs)
  there : {need : Need} {needs : List Need} → Lacking needs → Lacking (need ∷ needs)

pub data Enough : List Need → Type 0 where
  none : Enough []
  more : {n : ℕ} {s : List ℕ} {needs : List Need} → n ≤ length s → Enough needs → Enough (at_least n s ∷ needs)

-- What a call does where something is too small, and where nothing is.
pub record Asks (needs : List Need) (Refuses Takes : Type 0) : Type 0 where
  pub refuses : Lacking needs → Refuses
  pub takes : Enough needs → Takes

-- A number of the caller that names nothing does nothing.
pub record IfNamed (named : Bool) (Nothing Takes : Type 0) : Type 0 where
  pub passes : named ≡ false → Nothing
  pub takes : named ≡ true → Takes

-- The bytes afterwards are those of a control value, over what was there; a start that was refused leaves every byte alone, and so does a
-- block of which no byte was taken. Either way they read as that control value.
pub record KeptUnless {C : Type 0} (refused : Bool) (read : List ℕ → C) (bytes : C → List ℕ) (value : C) (control control' : List ℕ) : Type 0 where
  pub control_is : control' ≡ pick refused control (over (bytes value) control)
  pub reads : read control' ≡ value

-- Any other call puts its control value back always.
abbrev pub Kept : {C : Type 0} → (List ℕ → C) → (C → List ℕ) → C → List ℕ → List ℕ → Type 0
Kept read bytes value control control' = KeptUnless false read bytes value control control'

-- A call that makes a control value, of which it promises so much, and tells 0.
pub record Makes {C : Type 0} (read : List ℕ → C) (bytes : C → List ℕ) (Promise : C → Type 0) (control : List ℕ) (r : ℕ) (control' : List ℕ) : Type 0 where
  pub made : C
  pub promise : Promise made
  pub told : r ≡ 0
  pub kept : Kept read bytes made control control'

pub record Made {C : Type 0} (size : ℕ) (read : List ℕ → C) (bytes : C → List ℕ) (Promise : C → Type 0) (control : List ℕ) (r : ℕ) (control' : List ℕ) : Type 0 where
  pub asks : Asks (at_least size control ∷ []) ((r ≡ 13) × (control' ≡ control)) (Makes read bytes Promise control r control')
