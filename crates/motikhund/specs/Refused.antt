-- Demand 1 at every exported call: what a refused one leaves of all that it was lent. The theorems (proofs/Refusing.antt) start from the
-- call's contract and a told number that is a refusal's: 1 to 13, or 15.
use Rattle.std.specs.Prelude.{ℕ, ◌≤◌, List, [], ◌∷◌, ◌⊎◌, ◌≡◌}
use Rattle.words.specs.Lists.{Each}
use Rattle.packet.specs.declared.Refusal.{Refusal}
use Rattle.framer.specs.Refused.{FramerRefuses}
use Rattle.framer.specs.declared.Framed.{Framed}
use Rattle.hub.specs.Block.{Block, HearsBlock}
use Rattle.hub.specs.Refused.{HubRefuses}
use Rattle.hub.specs.declared.Taken.{Taken}
use Rattle.hub.specs.declared.Told.TheVariants as told
use Rattle.reader.specs.Refused.{ReaderRefuses}
use Rattle.reader.specs.declared.Taken.{Taken as Commanded}
use Rattle.motikhund.specs.Lent.{Kept}
use Rattle.motikhund.specs.Control.{framer_in, framer_bytes, hub_in, hub_bytes, reader_in, reader_bytes}
use Rattle.motikhund.specs.Numbers.{event_of, no_head}
use Rattle.motikhund.specs.declared.tables.MkTable.{MkTable}

-- What was lent, before the call and after it.
pub data Lent : Type 0 where
  lent : List ℕ → List ℕ → Lent
  lent_table : MkTable → MkTable → Lent

-- Every byte is as it was.
pub data AsItWas : Lent → Type 0 where
  same : {before after : List ℕ} → after ≡ before → AsItWas (lent before after)
  same_table : {before after : MkTable} → after ≡ before → AsItWas (lent_table before after)

-- Nothing lent has changed, and every value that is told beside the number is 0.
pub record Untouched (buffers : List Lent) (values : List ℕ) : Type 0 where
  pub buffers_same : Each AsItWas buffers
  pub values_zero : Each (λ (v : ℕ). v ≡ 0) values

-- A call that is refused by 13 alone.
pub record Refuses13 (r : ℕ) (buffers : List Lent) (values : List ℕ) : Type 0 where
  pub number : r ≡ 13
  pub untouched : Untouched buffers values

-- One that is refused by either of two numbers: a start by 11 or 13, a saved set that is read by 12 or 13, a list for a table by 7 or 9, a table
-- that is put into a reader by 9 or 13.
pub record RefusesBy (a b r : ℕ) (buffers : List Lent) (values : List ℕ) : Type 0 where
  pub number : (r ≡ a) ⊎ (r ≡ b)
  pub untouched : Untouched buffers values

-- A call that takes an event: by 13 nothing has changed; by any other number only what `Otherwise` says.
pub record EventRefuses (r : ℕ) (buffers : List Lent) (values : List ℕ) (Otherwise : Type 0) : Type 0 where
  pub by_13 : r ≡ 13 → Untouched buffers values
  pub by_others : (r ≡ 13 → ⊥) → Otherwise

-- A block: by 13 or 15 none of it was taken, and nothing has changed; by 1 or 2, and by no other number, it was taken, with what `Taken` says.
pub data BlockRefuses (r : ℕ) (buffers : List Lent) (values : List ℕ) (Taken : Type 0) : Type 0 where
  not_taken : (r ≡ 13) ⊎ (r ≡ 15) → Untouched buffers values → BlockRefuses r buffers values Taken
  was_taken : (r ≡ 1) ⊎ (r ≡ 2) → Taken → BlockRefuses r buffers values Taken

-- The event was taken and refused: the machine's own record (FramerRefuses, HubRefuses, ReaderRefuses) of what the control bytes read as before
-- and after. Behind the control value its bytes are as they were, and of the values only the answer's size is told.
pub record FramerTaken (x : Refusal) (event : ℕ) (control control' line line' head : List ℕ) : Type 0 where
  pub framed : Framed
  pub kept : Kept framer_in framer_bytes framed.framer control control'
  pub refuses : FramerRefuses x (event_of event) (framer_in control) framed line line'
  pub values_are : head ≡ no_head

pub record HubTaken (x : Refusal) (event : ℕ) (control control' line line' gather gather' answer answer' message message' values : List ℕ) : Type 0 where
  pub taken : Taken
  pub kept : Kept hub_in hub_bytes taken.hub control control'
  pub refuses : HubRefuses x (event_of event) (hub_in control) taken line line' gather gather' answer answer' message message'
  pub values_are : values ≡ taken.answer ∷ 0 ∷ 0 ∷ []

pub record ReaderTaken (x : Refusal) (event : ℕ) (control control' line line' answers answers' message answer answer' copy copy' values : List ℕ) : Type 0 where
  pub taken : Commanded
  pub kept : Kept reader_in reader_bytes taken.reader control control'
  pub refuses : ReaderRefuses x (event_of event) (reader_in control) taken line line' answers answers' message answer answer' copy copy'
  pub values_are : values ≡ taken.answer ∷ 0 ∷ 0 ∷ 0 ∷ 0 ∷ 0 ∷ []

-- A block that was taken, one byte at least, and brought the refusal: its own promise, what the bytes taken leave one by one. Beside the number
-- stand the answers' size and the bytes taken, and no message.
pub record BlockTaken (x : Refusal) (bytes control control' line line' gather gather' answer answer' message message' values : List ℕ) : Type 0 where
  pub block : Block
  pub hears : HearsBlock (hub_in control) line gather answer message bytes block line' gather' answer' message'
  pub kept : Kept hub_in hub_bytes block.hub control control'
  pub refuses : block.told ≡ told.Refused x
  pub some : 1 ≤ block.taken
  pub values_are : values ≡ block.answer ∷ 0 ∷ 0 ∷ block.taken ∷ []
