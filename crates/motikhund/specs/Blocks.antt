-- What the functions inside the block call promise, over control bytes and numbers.
use Rattle.std.specs.Prelude.{ℕ, Bool, true, List, [], ◌∷◌, ◌≡◌, eqb, ltb}
use Rattle.words.specs.Lists.{pick}
use Rattle.framer.specs.Silence.{TakesIn}
use Rattle.framer.specs.declared.TakenIn.{TakenIn}
use Rattle.hub.specs.Promises.{hub_answer_size}
use Rattle.motikhund.specs.Lent.{Kept}
use Rattle.motikhund.specs.Control.{hub_in, hub_bytes}
use Rattle.motikhund.specs.Promises.{HubTakesBlock}
use Rattle.motikhund.specs.declared.block.Brought.{Brought}

-- Bytes in silence: of the hub only its line has changed.
pub record CarriesBytes (control line bytes : List ℕ) (r : ℕ) (control' line' : List ℕ) : Type 0 where
  pub taken : TakenIn
  pub takes : TakesIn (hub_in control).line line bytes taken line'
  pub count_is : r ≡ taken.count
  pub kept : Kept hub_in hub_bytes (record { line = taken.halves; gathering = (hub_in control).gathering }) control control'

-- By the numbers of what a hub tells: 112 is a message, 0 nothing, 1 and 2 are refusals.
pub record NamesNumber (before number r : ℕ) : Type 0 where
  pub is : r ≡ pick (eqb number 112) number (pick (eqb number 0) before (pick (ltb number 3) number before))

pub record LeavesNumber (number room : ℕ) (r : Bool) : Type 0 where
  pub is : r ≡ pick (eqb number 112) true (ltb room hub_answer_size)

-- A block that is not refused, told as the call tells it.
pub record ReadsBytes (control line gather answer message bytes : List ℕ) (r : Brought) (control' line' gather' answer' message' : List ℕ) : Type 0 where
  pub takes : HubTakesBlock control line gather answer message bytes r.told control' line' gather' answer' message' (r.answer ∷ r.code ∷ r.count ∷ r.taken ∷ [])
