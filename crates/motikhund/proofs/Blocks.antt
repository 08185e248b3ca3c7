-- A block of bytes, from the hub's promise: what it leaves where no byte was taken, and which refusals it tells. Assumes nothing.
use Prim.Native.Nat.{ℕ, ◌<◌}
use mathlib.Core.Path.{◌≡◌, refl, sym, ap, ◌∙◌}
use mathlib.Core.Bool.{Bool, true, false}
use mathlib.Core.List.{List, [], ◌∷◌}
use mathlib.Core.Logic.{◌⊎◌, inl, inr}
use lib.Dec.{ltb}
use lib.ListN.{length}
use borrow.Author.Tests.{ltb-true}
use Rattle.words.specs.Lists.{pick}
use Rattle.words.specs.Machine.{through}
use Rattle.words.proofs.Lists.{over_nil, never}
use Rattle.packet.specs.Refusals.{number_of}
use Rattle.packet.specs.declared.Refusal.{Refusal}
use Rattle.packet.specs.declared.Refusal.TheVariants as refusal
use Rattle.hub.specs.Joiner.{Output, added, repeated, handed, refused, answered}
use Rattle.hub.specs.Promises.{message_of, too_small}
use Rattle.hub.specs.Block.{all_of, last_of, name_of, too_long, taken_of, block_told_of, HubAt, run_of, Block, HearsBlock}
use Rattle.hub.specs.declared.Hub.{Hub}
use Rattle.hub.specs.declared.Told.{Told}
use Rattle.hub.specs.declared.Told.TheVariants as told
use Rattle.hub.proofs.Blocks.{named_as, name_refused}

-- ---- no byte taken

pub record Unmoved (hub : Hub) (line gather answer message : List ℕ) (block : Block) (line' gather' answer' message' : List ℕ) : Type 0 where
  pub hub_same : block.hub ≡ hub
  pub line_same : line' ≡ line
  pub gather_same : gather' ≡ gather
  pub answer_same : answer' ≡ answer
  pub message_same : message' ≡ message
  pub no_answer : block.answer ≡ 0

pub none_taken : {hub : Hub} {line gather answer message bytes line' gather' answer' message' : List ℕ} {block : Block} →
    HearsBlock hub line gather answer message bytes block line' gather' answer' message' →
    block.taken ≡ 0 →
    Unmoved hub line gather answer message block line' gather' answer' message'
unfolding through all_of message_of
none_taken {answer = answer} {message} hears e =
    let left = rw e at hears.takes.left_is in
    record {
      hub_same = ap (λ (x : HubAt). x.hub) left;
      line_same = ap (λ (x : HubAt). x.line) left;
      gather_same = ap (λ (x : HubAt). x.gather) left;
      answer_same = (rw e at hears.takes.answer_is) ∙ over_nil answer;
      message_same = (rw e at hears.takes.message_is) ∙ over_nil message;
      no_answer = rw e at hears.takes.size_is;
    }

-- ---- what is told

-- Of what the bytes brought only 1 and 2 are named.
abbrev Low : Told → Type 0
Low t = (x : Refusal) → t ≡ told.Refused x → number_of x < 3

low_named : (t : Told) (r : Refusal) (d : Bool) → ltb (number_of r) 3 ≡ d → Low t → Low (pick d (told.Refused r) t)
low_named t r true e k x f = let y : r ≡ x = cc in rw y at (ltb-true (number_of r) 3 e)
low_named t r false e k x f = k x f

low_name : (t : Told) (xs : List Output) → Low t → Low (name_of t xs)
unfolding all_of last_of
low_name t [] k = k
low_name t (added ∷ xs) k = low_name t xs k
low_name t (repeated ∷ xs) k = low_name t xs k
low_name t (handed code bytes ∷ xs) k = low_name (told.Message code (length bytes)) xs (λ x e. never (cc))
low_name t (refused r ∷ xs) k = rw (name_refused t r xs) (low_name (named_as t (told.Refused r)) xs (low_named t r (ltb (number_of r) 3) refl k))
low_name t (answered bytes ∷ xs) k = low_name t xs k

-- A refused block: 13 or 15 before its first byte, else 1 or 2 behind one.
pub data BlockRefused (x : Refusal) (block : Block) : Type 0 where
  at_once : (number_of x ≡ 13) ⊎ (number_of x ≡ 15) → block.taken ≡ 0 → BlockRefused x block
  behind_a_byte : number_of x < 3 → (block.taken ≡ 0 → ⊥) → BlockRefused x block

module _ {hub : Hub} {line gather answer message bytes line' gather' answer' message' : List ℕ} {block : Block} {x : Refusal}
    (hears : HearsBlock hub line gather answer message bytes block line' gather' answer' message') (f : block.told ≡ told.Refused x) where
  at_once_by : (y : Refusal) → (number_of y ≡ 13) ⊎ (number_of y ≡ 15) → block.told ≡ told.Refused y → block.taken ≡ 0 → BlockRefused x block
  at_once_by y n e t = let g : y ≡ x = cc in at_once (rw g at n) t

  behind_by : block.told ≡ name_of told.Nothing (run_of (record { hub = hub; line = line; gather = gather }) bytes block.taken).told → BlockRefused x block
  unfolding through all_of last_of
  behind_by e =
      let g = sym e ∙ f in
      behind_a_byte (low_name told.Nothing (run_of (record { hub = hub; line = line; gather = gather }) bytes block.taken).told (λ y z. never (cc)) x g) (λ z. let n = rw z at g in never (cc))

  by_tests : (d c : Bool) → too_small answer message ≡ d → too_long bytes ≡ c → BlockRefused x block
  unfolding block_told_of taken_of
  by_tests true c s l = at_once_by refusal.Room (inl refl) (simp s at hears.told_is) (simp s at hears.taken_is)
  by_tests false true s l = at_once_by refusal.Long (inr refl) (simp (s, l) at hears.told_is) (simp (s, l) at hears.taken_is)
  by_tests false false s l = behind_by (simp (s, l) at hears.told_is)

  pub block_refused : BlockRefused x block
  block_refused = by_tests (too_small answer message) (too_long bytes) refl refl
