-- Each call's contract allows one outcome only: what is told, the control value, every byte of both buffers and both rooms. Assumes nothing.
use Prim.Native.Nat.{ℕ}
use mathlib.Core.Path.{◌≡◌, sym, ap, ◌∙◌}
use mathlib.Core.List.{List}
use lib.ListN.{length}
use Rattle.words.specs.Lists.{over}
use Rattle.framer.specs.declared.Event.{Event}
use Rattle.hub.specs.Promises.{message_of, SwitchedOn, Hears}
use Rattle.hub.specs.Block.{answers_of, block_told_of, HubAt, run_of, left_by, Block, HearsBlock}
use Rattle.hub.specs.declared.Hub.{Hub}
use Rattle.hub.specs.declared.Taken.{Taken}
use Rattle.hub.specs.declared.Told.{Told}

pub switched_on_unique : {r r' : Hub} → SwitchedOn r → SwitchedOn r' → r ≡ r'
switched_on_unique p q = p.is ∙ sym q.is

pub hear_unique : {hub : Hub} {line gather answer message line₁ gather₁ answer₁ message₁ line₂ gather₂ answer₂ message₂ : List ℕ} {e : Event} {r r' : Taken} →
    Hears hub line gather answer message e r line₁ gather₁ answer₁ message₁ →
    Hears hub line gather answer message e r' line₂ gather₂ answer₂ message₂ →
    (r ≡ r') × (line₁ ≡ line₂) × (gather₁ ≡ gather₂) × (answer₁ ≡ answer₂) × (message₁ ≡ message₂)
hear_unique p q = (
  p.is ∙ sym q.is,
  p.line_is ∙ sym q.line_is,
  p.gather_is ∙ sym q.gather_is,
  p.answer_is ∙ sym q.answer_is,
  p.message_is ∙ sym q.message_is,
)

-- Two blocks that agree in every field; and all that is left hangs on how many bytes were taken.
same_block : {hub hub' : Hub} {taken taken' answer answer' : ℕ} {told told' : Told} → hub ≡ hub' → taken ≡ taken' → told ≡ told' → answer ≡ answer' →
    ◌≡◌ {A = Block} (record { hub = hub; taken = taken; told = told; answer = answer }) (record { hub = hub'; taken = taken'; told = told'; answer = answer' })
same_block h t n a = rw (h, t, n, a)

by_taken : {A : Type 0} {n n' : ℕ} {x y : A} (f : ℕ → A) → n ≡ n' → x ≡ f n → y ≡ f n' → x ≡ y
by_taken f e p q = p ∙ (ap f e ∙ sym q)

pub hear_block_unique : {hub : Hub} {line gather answer message bytes line₁ gather₁ answer₁ message₁ line₂ gather₂ answer₂ message₂ : List ℕ} {r r' : Block} →
    HearsBlock hub line gather answer message bytes r line₁ gather₁ answer₁ message₁ →
    HearsBlock hub line gather answer message bytes r' line₂ gather₂ answer₂ message₂ →
    (r ≡ r') × (line₁ ≡ line₂) × (gather₁ ≡ gather₂) × (answer₁ ≡ answer₂) × (message₁ ≡ message₂)
hear_block_unique {hub} {line} {gather} {answer} {message} {bytes} p q =
    let h : HubAt = record { hub = hub; line = line; gather = gather } in
    let e = p.taken_is ∙ sym q.taken_is in
    let left = by_taken (left_by h bytes) e p.takes.left_is q.takes.left_is in (
      same_block
          (ap (λ (x : HubAt). x.hub) left)
          e
          (by_taken (λ (n : ℕ). block_told_of answer message bytes (run_of h bytes n).told) e p.told_is q.told_is)
          (by_taken (λ (n : ℕ). length (answers_of (run_of h bytes n).told)) e p.takes.size_is q.takes.size_is),
      ap (λ (x : HubAt). x.line) left,
      ap (λ (x : HubAt). x.gather) left,
      by_taken (λ (n : ℕ). over (answers_of (run_of h bytes n).told) answer) e p.takes.answer_is q.takes.answer_is,
      by_taken (λ (n : ℕ). over (message_of (run_of h bytes n).told) message) e p.takes.message_is q.takes.message_is,
    )
