-- Each call's contract allows one outcome only: what is found, the control value, every byte of the line buffer or of the part handed out.
-- Assumes nothing.
use Prim.Native.Nat.{ℕ}
use mathlib.Core.Path.{◌≡◌, refl, sym, ap, ◌∙◌}
use mathlib.Core.Bool.{Bool}
use mathlib.Core.List.{List}
use Rattle.framer.specs.Promises.{Idle, Frames}
use Rattle.framer.specs.Halves.{IdleHalves, Listens, Received, Kept, AcceptsLast, going_by, GoesOn, on, left}
use Rattle.framer.specs.Framer.{Heard}
use Rattle.framer.specs.Silence.{LineAt, TakesIn}
use Rattle.framer.specs.declared.Event.{Event}
use Rattle.framer.specs.declared.Framer.{Framer}
use Rattle.framer.specs.declared.Framed.{Framed}
use Rattle.framer.specs.declared.Halves.{Halves}
use Rattle.framer.specs.declared.Listened.{Listened}
use Rattle.framer.specs.declared.Going.{Going}
use Rattle.framer.specs.declared.TakenIn.{TakenIn}
use Rattle.words.specs.Machine.{Done}
use Rattle.words.proofs.Lists.{never}

pub idle_unique : {r r' : Framer} → Idle r → Idle r' → r ≡ r'
idle_unique p q = p.is ∙ sym q.is

pub hear_unique : {f : Framer} {line line₁ line₂ : List ℕ} {e : Event} {r r' : Framed} → Frames f line e r line₁ → Frames f line e r' line₂ → (r ≡ r') × (line₁ ≡ line₂)
hear_unique p q = (p.is ∙ sym q.is, p.line_is ∙ sym q.line_is)

pub idle_halves_unique : {r r' : Halves} → IdleHalves r → IdleHalves r' → r ≡ r'
idle_halves_unique p q = p.is ∙ sym q.is

pub listen_unique : {h : Halves} {buffer buffer₁ buffer₂ : List ℕ} {e : Event} {r r' : Listened} → Listens h buffer e r buffer₁ → Listens h buffer e r' buffer₂ →
    (r ≡ r') × (buffer₁ ≡ buffer₂)
listen_unique p q = (p.is ∙ sym q.is, p.buffer_is ∙ sym q.buffer_is)

pub received_unique : {h : Halves} {buffer r r' : List ℕ} {n : ℕ} → Received h buffer n r → Received h buffer n r' → r ≡ r'
received_unique p q = p.is ∙ sym q.is

pub kept_unique : {h : Halves} {buffer r r' : List ℕ} → Kept h buffer r → Kept h buffer r' → r ≡ r'
kept_unique p q = p.is ∙ sym q.is

pub accept_unique : {h r r' : Halves} {n : ℕ} → AcceptsLast h n r → AcceptsLast h n r' → r ≡ r'
accept_unique p q = p.is ∙ sym q.is

pub go_on_unique : {f : Framer} {second : Bool} {buffer buffer₁ buffer₂ : List ℕ} {e : Event} {r r' : Going} → GoesOn f second buffer e r buffer₁ → GoesOn f second buffer e r' buffer₂ →
    (r ≡ r') × (buffer₁ ≡ buffer₂)
go_on_unique {f} (on s t g k) (on s' t' g' k') =
    let u = listen_unique (k 0) (k' 0) in
    (t ∙ (ap (λ (l : Listened). going_by f.deaf l.halves.framer.deaf l.halves.framer.count) u.0 ∙ sym t'), u.1)
go_on_unique (on s t g k) (left g' k') = never (cc)
go_on_unique (left g k) (on s t g' k') = never (cc)
go_on_unique (left g k) (left g' k') = (refl, k ∙ sym k')

pub take_in_unique : {h : Halves} {buffer bytes buffer₁ buffer₂ : List ℕ} {r r' : TakenIn} → TakesIn h buffer bytes r buffer₁ → TakesIn h buffer bytes r' buffer₂ → (r ≡ r') × (buffer₁ ≡ buffer₂)
take_in_unique {r = r} {r'} p q =
    let count : r.count ≡ r'.count = p.count_is ∙ sym q.count_is in
    let left = ap (λ (d : Done LineAt Heard). d.next) (sym p.stands ∙ rw (← count) at q.stands) in
    let halves : r.halves ≡ r'.halves = ap (λ (l : LineAt). l.halves) left in
    (ap (λ (h : Halves). record { halves = h; count = r.count }) halves ∙ ap (λ (n : ℕ). record { halves = r'.halves; count = n }) count, ap (λ (l : LineAt). l.buffer) left)
