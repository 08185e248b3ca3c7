-- Each call's contract allows one outcome only: the answer, and every byte of the room. Assumes nothing.
use Prim.Native.Nat.{ℕ}
use mathlib.Core.Path.{◌≡◌, sym, ap, ◌∙◌}
use mathlib.Core.Bool.{Bool}
use mathlib.Core.List.{List}
use lib.ListN.{length, take}
use Rattle.words.specs.Lists.{over}
use Rattle.words.specs.Machine.{through}
use Rattle.listing.specs.Listing.{Reading, Acts, list_step}
use Rattle.listing.specs.Session.{Hears}
use Rattle.std.proofs.Common.{Option}
use Rattle.listing.specs.declared.Taken.{Taken}
use Rattle.listing.specs.declared.Page.{Page}
use Rattle.listing.specs.Promises.{IsDigit, Takes, Spelt, Puts, PutsLine, PutsAnswer, Finishes, GoesOn}

pub digit_of_unique : {c : ℕ} {r r' : Option ℕ} → IsDigit c r → IsDigit c r' → r ≡ r'
digit_of_unique p q = p.is ∙ sym q.is

pub take_unique : {w : Option ℕ} {c : ℕ} {r r' : Taken} → Takes w c r → Takes w c r' → r ≡ r'
take_unique p q = p.is ∙ sym q.is

pub spelt_unique : {b : ℕ} {r r' : List ℕ} → Spelt b r → Spelt b r' → r ≡ r'
spelt_unique p q = p.is ∙ sym q.is

pub puts_unique : {p room room₁ room₂ : List ℕ} {at r r' : ℕ} → Puts p at room r room₁ → Puts p at room r' room₂ → (r ≡ r') × (room₁ ≡ room₂)
puts_unique p q = (p.is ∙ sym q.is, p.room_is ∙ sym q.room_is)

-- For `put_line` and `put_error`.
pub put_line_unique : {s : List ℕ} {p p₁ p₂ : Page} → PutsLine s p p₁ → PutsLine s p p₂ → (p₁.at ≡ p₂.at) × (p₁.room.now ≡ p₂.room.now)
put_line_unique a b = puts_unique a.puts b.puts

pub put_answer_unique : {answer : List ℕ} {p p₁ p₂ : Page} → PutsAnswer answer p p₁ → PutsAnswer answer p p₂ → (p₁.at ≡ p₂.at) × (p₁.room.now ≡ p₂.room.now)
put_answer_unique a b = put_line_unique a.line b.line

pub put_last_unique : {ended : Bool} {waiting : Option ℕ} {room room₁ room₂ : List ℕ} {r r' : ℕ} → Finishes ended waiting room r room₁ → Finishes ended waiting room r' room₂ → (r ≡ r') × (room₁ ≡ room₂)
put_last_unique p q = puts_unique p.puts q.puts

pub goes_on_unique : {ended : Bool} {most left : ℕ} {r r' : Bool} → GoesOn ended most left r → GoesOn ended most left r' → r ≡ r'
goes_on_unique p q = p.is ∙ sym q.is

-- For the `hear` of each listing: what is taken, every byte of the room, and where the listing then stands.
pub hears_unique : {S : Type 0} {acts : Acts S} {most : ℕ} {s : Reading S} {text room : List ℕ} {n count n' count' : ℕ} {s₁ s₂ : Reading S} {room₁ room₂ : List ℕ} →
    Hears acts most s text room n count s₁ room₁ → Hears acts most s text room n' count' s₂ room₂ → (n ≡ n') × (count ≡ count') × (room₁ ≡ room₂) × (s₁ ≡ s₂)
hears_unique {S} {acts} {most} {s} {text} {room} {n} {count} {n'} p q =
    let e : n ≡ n' = p.taken_is ∙ sym q.taken_is in (
      e,
      p.count_is ∙ (ap (λ (m : ℕ). length (through (list_step acts) s (take m text)).told) e ∙ sym q.count_is),
      p.room_is ∙ (ap (λ (m : ℕ). over (through (list_step acts) s (take m text)).told room) e ∙ sym q.room_is),
      p.next ∙ (ap (λ (m : ℕ). (through (list_step acts) s (take m text)).next) e ∙ sym q.next),
    )
