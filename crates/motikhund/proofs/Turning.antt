-- What the loops of the block call keep over control bytes: the hub that stands in them goes on as in Rattle.hub.proofs.Blocks, and what is
-- told is told by numbers. Assumes nothing.
use Prim.Native.Nat.{ℕ, ◌+◌, ◌-◌, ◌≤◌, ◌<◌}
use mathlib.Core.Path.{◌≡◌, refl, sym, ap, ◌∙◌}
use mathlib.Core.Bool.{Bool, true, false}
use mathlib.Core.List.{List, [], ◌∷◌, ◌++◌}
use native.Mathlib.Omega.{arith}
use lib.Dec.{eqb, ltb}
use lib.ListN.{length, get_or, take, drop, length-take, length-drop}
use borrow.Author.Tests.{ne_eqb, lt-ltb, le-ltb, le-leb}
use Rattle.words.specs.Lists.{pick, over}
use Rattle.words.proofs.Lists.{never, over_over, length_over, back}
use Rattle.packet.specs.Refusals.{number_of}
use Rattle.packet.specs.Sizes.{message_size}
use Rattle.packet.specs.declared.Refusal.{Refusal}
use Rattle.framer.specs.declared.Event.TheVariants.{Byte}
use Rattle.framer.specs.Silence.{TakesIn}
use Rattle.framer.specs.declared.TakenIn.{TakenIn}
use Rattle.hub.specs.Joiner.{Output, added, repeated, handed, refused, answered}
use Rattle.hub.specs.Promises.{hub_answer_size, too_small, Hears}
use Rattle.hub.specs.Block.{block_size, all_of, hands_out, last_of, name_of}
use Rattle.hub.specs.declared.Hub.{Hub}
use Rattle.hub.specs.declared.Told.{Told}
use Rattle.hub.specs.declared.Told.TheVariants as told
use Rattle.hub.proofs.Blocks.{named_as, name_refused, leaves_at, Leaves, Carried, Carries, Reads, Goes, Turn, carries, room_open, goes_first, goes_on_lem, message_same, turns, answer_fits, answer_length, goes_again, no_message_yet, reads_all, reads_turn, block_read}
use Rattle.motikhund.specs.Lent.{none, more}
use Rattle.motikhund.specs.Control.{hub_control_size, number_bytes, framer_bytes, halves_bytes, gathering_bytes, hub_in, hub_bytes, HubIn, PutsHub}
use Rattle.motikhund.specs.Numbers.{is_event, event_of, hub_number, hub_values}
use Rattle.motikhund.specs.Promises.{HubTakes, HubHears, HubTakesBlock}
use Rattle.motikhund.specs.Blocks.{CarriesBytes, NamesNumber, LeavesNumber}
use Rattle.motikhund.proofs.Calls.{hub_kept}
use Rattle.motikhund.proofs.Refusing.{number_least, number_most}

-- ---- names by their numbers

hub_names : (before t : Told) {n : ℕ} → NamesNumber (hub_number before) (hub_number t) n → n ≡ hub_number (named_as before t)
hub_names before told.Nothing k = k.is
hub_names before told.Added k = k.is
hub_names before told.Repeated k = k.is
hub_names before (told.Message code count) k = k.is
hub_names before (told.Refused r) k =
    let l = number_least r in
    let m = number_most r in
    k.is ∙ (simp (ne_eqb (number_of r) 112 (λ z. omega arith), ne_eqb (number_of r) 0 (λ z. omega arith)) (by (ltb (number_of r) 3)))
  where
    by : (d : Bool) → pick d (number_of r) (hub_number before) ≡ hub_number (pick d (told.Refused r) before)
    by true = refl
    by false = refl

hub_leaves : (t : Told) {room : ℕ} {d : Bool} → LeavesNumber (hub_number t) room d → Leaves t room d
hub_leaves told.Nothing k = record { is = k.is }
hub_leaves told.Added k = record { is = k.is }
hub_leaves told.Repeated k = record { is = k.is }
hub_leaves (told.Message code count) k = record { is = k.is }
hub_leaves (told.Refused r) k = let m = number_most r in record { is = k.is ∙ simp (ne_eqb (number_of r) 112 (λ z. omega arith)) }

pub carries_bytes : {control line bytes control' line' : List ℕ} {hub : Hub} {r : TakenIn} → HubIn control hub → TakesIn hub.line line bytes r line' →
    PutsHub (record { line = r.halves; gathering = hub.gathering }) control control' → CarriesBytes control line bytes r.count control' line'
carries_bytes {r = r} i t p = record { taken = r; takes = rw i.is at t; count_is = refl; kept = hub_kept (rw i.is at p) }

-- ---- the values beside them

first_value : (t : Told) (a : ℕ) → get_or (hub_values t a) 0 0 ≡ a
first_value told.Nothing a = refl
first_value told.Added a = refl
first_value told.Repeated a = refl
first_value (told.Message code count) a = refl
first_value (told.Refused r) a = refl

-- A name that is no message has none.
abbrev Bare : Told → Type 0
Bare t = (a : ℕ) → hub_values t a ≡ a ∷ 0 ∷ 0 ∷ []

bare_named : (before : Told) (r : Refusal) (d : Bool) → Bare before → Bare (pick d (told.Refused r) before)
bare_named before r true b = λ a. refl
bare_named before r false b = b

bare_name : (t : Told) (os : List Output) → Bare t → hands_out os ≡ false → Bare (name_of t os)
unfolding all_of last_of hands_out
bare_name t [] b e = b
bare_name t (added ∷ os) b e = bare_name t os b e
bare_name t (repeated ∷ os) b e = bare_name t os b e
bare_name t (handed code bytes ∷ os) b e = never (cc)
bare_name t (refused r ∷ os) b e = rw (name_refused t r os) (bare_name (named_as t (told.Refused r)) os (bare_named t r (ltb (number_of r) 3) b) e)
bare_name t (answered bytes ∷ os) b e = bare_name t os b e

-- Where a block goes on, an event brought no message.
bare_on : (t : Told) (room : ℕ) → leaves_at t room ≡ false → Bare t
bare_on told.Nothing room e = λ a. refl
bare_on told.Added room e = λ a. refl
bare_on told.Repeated room e = λ a. refl
bare_on (told.Message code count) room e = never (cc)
bare_on (told.Refused r) room e = λ a. refl

-- What is shown of the last event is shown of the block.
shown : (before t : Told) (a b : ℕ) → Bare before → hub_values (named_as before t) a ≡ a ∷ get_or (hub_values t b) 1 0 ∷ get_or (hub_values t b) 2 0 ∷ []
shown before told.Nothing a b k = k a
shown before told.Added a b k = k a
shown before told.Repeated a b k = k a
shown before (told.Message code count) a b k = refl
shown before (told.Refused r) a b k = bare_named before r (ltb (number_of r) 3) k a

-- ---- the control bytes

hub_size : (h : Hub) → length (hub_bytes h) ≡ hub_control_size
unfolding hub_bytes halves_bytes framer_bytes number_bytes gathering_bytes
hub_size h = refl

-- The bytes of a hub over control bytes that hold one already, or that are as they were.
rebased : (h : Hub) (at : ℕ) (control₀ control : List ℕ) → control ≡ pick (eqb at 0) control₀ (over (hub_bytes (hub_in control)) control₀) → over (hub_bytes h) control ≡ over (hub_bytes h) control₀
rebased h at control₀ control e = ap (over (hub_bytes h)) e ∙ by (eqb at 0)
  where
    by : (d : Bool) → over (hub_bytes h) (pick d control₀ (over (hub_bytes (hub_in control)) control₀)) ≡ over (hub_bytes h) control₀
    by true = refl
    by false = let p = hub_size h in let q = hub_size (hub_in control) in over_over (hub_bytes h) (hub_bytes (hub_in control)) control₀ (omega arith)

-- ---- what the loops keep

abbrev carried_by : List ℕ → TakenIn → ℕ → Carried
carried_by control taken n = record { hub = record { line = taken.halves; gathering = (hub_in control).gathering }; count = n }

pub record Going (control₀ line₀ gather₀ answer₀ message₀ bytes : List ℕ) (number code count at out : ℕ) (control line gather answer message : List ℕ) : Type 0 where
  pub name : Told
  pub goes : Goes (hub_in control₀) line₀ gather₀ answer₀ message₀ bytes (hub_in control) name at out line gather answer message
  pub number_is : number ≡ hub_number name
  pub control_is : control ≡ pick (eqb at 0) control₀ (over (hub_bytes (hub_in control)) control₀)
  pub no_code : code ≡ 0
  pub no_count : count ≡ 0

pub going_first : {control line gather answer message bytes : List ℕ} → hub_answer_size ≤ length answer →
    Going control line gather answer message bytes 0 0 0 0 0 control line gather answer message
going_first h = record { name = told.Nothing; goes = goes_first h; number_is = refl; control_is = refl; no_code = refl; no_count = refl }

-- A turn, and whether it is left behind it.
pub record Turns (control₀ line₀ gather₀ answer₀ message₀ bytes : List ℕ) (number code count at out : ℕ) (control line gather answer message : List ℕ) (d : Bool) : Type 0 where
  pub name : Told
  pub turn : Turn (hub_in control₀) line₀ gather₀ answer₀ message₀ bytes (hub_in control) name at out line gather answer message d
  pub number_is : number ≡ hub_number name
  pub control_is : control ≡ over (hub_bytes (hub_in control)) control₀
  pub shows : hub_values name out ≡ out ∷ code ∷ count ∷ []
  pub bare : d ≡ false → (code ≡ 0) × (count ≡ 0)

takes_event : {control line gather answer message : List ℕ} {n r : ℕ} {control' line' gather' answer' message' values : List ℕ} →
    HubHears control line gather answer message n r control' line' gather' answer' message' values → hub_control_size ≤ length control → hub_answer_size ≤ length answer → message_size ≤ length message → n < 256 →
    HubTakes control line gather answer message n r control' line' gather' answer' message' values
unfolding is_event
takes_event {n = n} h c a m l = (h.asks.takes (more c (more a (more m none)))).takes (le-leb n 257 (omega arith))

module _ {control₀ line₀ gather₀ answer₀ message₀ bytes : List ℕ} {number code count at out : ℕ} {control line gather answer message : List ℕ}
    (g : Going control₀ line₀ gather₀ answer₀ message₀ bytes number code count at out control line gather answer message) where
  bare_here : Bare g.name
  bare_here = rw g.goes.reading.told_is (bare_name told.Nothing g.goes.os (λ a. refl) (no_message_yet g.goes))

  -- The part of the answer room that is lent has room for an answer.
  part_long : hub_answer_size ≤ length (take (length answer - out) (drop out answer))
  part_long = let o = room_open g.goes in simp (length-take, length-drop) (omega arith)

  module _ {n : ℕ} {control₁ line₁ : List ℕ} (k : CarriesBytes control line (take (length bytes - at) (drop at bytes)) n control₁ line₁) where
    silent : Carries (hub_in control) line (take (length bytes - at) (drop at bytes)) (carried_by control k.taken n) line₁
    silent = rw k.count_is (carries k.takes)

    stands : hub_in control₁ ≡ (carried_by control k.taken n).hub
    stands = k.kept.reads

    -- Bytes in silence, and then the end.
    pub goes_silent : Goes (hub_in control₀) line₀ gather₀ answer₀ message₀ bytes (hub_in control₁) g.name (at + n) out line₁ gather answer message
    goes_silent = rw stands (goes_on_lem g.goes silent)

    control_carried : control₁ ≡ over (hub_bytes (hub_in control₁)) control₀
    control_carried = k.kept.control_is ∙ (ap (λ (h : Hub). over (hub_bytes h) control) (sym k.kept.reads) ∙ rebased (hub_in control₁) at control₀ control g.control_is)

    -- A byte that is an event, in rooms of full size.
    pub event : {r : ℕ} {control₂ line₂ gather₂ part message₂ one₂ : List ℕ} → hub_control_size ≤ length control → message_size ≤ length message → get_or bytes (at + n) 0 < 256 →
        HubHears control₁ line₁ gather (take (length answer - out) (drop out answer)) message (get_or bytes (at + n) 0) r control₂ line₂ gather₂ part message₂ one₂ →
        HubTakes control₁ line₁ gather (take (length answer - out) (drop out answer)) message (get_or bytes (at + n) 0) r control₂ line₂ gather₂ part message₂ one₂
    event long full small h =
        let carried = (carried_by control k.taken n).hub in
        let size = hub_size carried in
        let same : length control₁ ≡ length control = ap length k.kept.control_is ∙ length_over (hub_bytes carried) control (omega arith) in
        takes_event h (omega arith) part_long full small

    module _ {r : ℕ} {control₂ line₂ gather₂ part message₂ one₂ : List ℕ} (end : at + n ≡ length bytes → ⊥) (full : message_size ≤ length message) (small : get_or bytes (at + n) 0 < 256)
        (h : HubTakes control₁ line₁ gather (take (length answer - out) (drop out answer)) message (get_or bytes (at + n) 0) r control₂ line₂ gather₂ part message₂ one₂) where
      heard : Hears (carried_by control k.taken n).hub line₁ gather (take (length answer - out) (drop out answer)) message (Byte (get_or bytes (at + n) 0)) h.taken line₂ gather₂ part message₂
      unfolding event_of
      heard =
          let e : event_of (get_or bytes (at + n) 0) ≡ Byte (get_or bytes (at + n) 0) = simp (lt-ltb (get_or bytes (at + n) 0) 256 small) in
          rw (stands, e) at h.hears

      size : get_or one₂ 0 0 ≡ h.taken.answer
      size = ap (λ (l : List ℕ). get_or l 0 0) h.values_are ∙ first_value h.taken.told h.taken.answer

      pub out_fits : out + get_or one₂ 0 0 ≤ length answer
      out_fits = rw size (answer_fits g.goes silent end full heard)

      pub out_length : length (back out part answer) ≡ length answer
      out_length = answer_length g.goes silent end full heard

      pub turned : {number₂ room : ℕ} {d : Bool} → NamesNumber number r number₂ → room ≡ length (back out part answer) - (out + get_or one₂ 0 0) → LeavesNumber r room d →
          Turns control₀ line₀ gather₀ answer₀ message₀ bytes number₂ (get_or one₂ 1 0) (get_or one₂ 2 0) (at + n + 1) (out + get_or one₂ 0 0) control₂ line₂ gather₂ (back out part answer) message₂ d
      turned {d = d} names e leaves =
          let t = h.taken.told in
          let left = hub_leaves t (rw h.told at leaves) in
          record {
            name = named_as g.name t;
            turn = rw (h.kept.reads, size) (turns g.goes silent end full heard (record { is = refl }) (rw size at (e ∙ ap (λ (k : ℕ). k - (out + get_or one₂ 0 0)) out_length)) left);
            number_is = hub_names g.name t (rw (g.number_is, h.told) at names);
            control_is =
                h.kept.control_is
                ∙ (ap (λ (x : Hub). over (hub_bytes x) control₁) (sym h.kept.reads)
                ∙ (ap (over (hub_bytes (hub_in control₂))) control_carried
                ∙ (let p = hub_size (hub_in control₂) in let q = hub_size (hub_in control₁) in over_over (hub_bytes (hub_in control₂)) (hub_bytes (hub_in control₁)) control₀ (omega arith))));
            shows = rw h.values_are (shown g.name t (out + get_or (hub_values t h.taken.answer) 0 0) h.taken.answer bare_here);
            bare = λ z. let b = bare_on t _ (sym left.is ∙ z) h.taken.answer in rw (h.values_are, b) (refl, refl);
          }

pub going_again : {control₀ line₀ gather₀ answer₀ message₀ bytes : List ℕ} {number code count at out : ℕ} {control line gather answer message : List ℕ} {d : Bool} →
    Turns control₀ line₀ gather₀ answer₀ message₀ bytes number code count at out control line gather answer message d → (at ≡ 0 → ⊥) → d ≡ false →
    Going control₀ line₀ gather₀ answer₀ message₀ bytes number code count at out control line gather answer message
going_again {at = at} t some e =
    record {
      name = t.name;
      goes = goes_again t.turn e;
      number_is = t.number_is;
      control_is = t.control_is ∙ simp (ne_eqb at 0 some);
      no_code = (t.bare e).0;
      no_count = (t.bare e).1;
    }

-- ---- the ends

roomy : (answer message : List ℕ) → hub_answer_size ≤ length answer → message_size ≤ length message → too_small answer message ≡ false
unfolding too_small
roomy answer message a m = simp (le-ltb (length answer) hub_answer_size a, le-ltb (length message) message_size m)

module _ {control₀ line₀ gather₀ answer₀ message₀ bytes : List ℕ} (a : hub_answer_size ≤ length answer₀) (m : message_size ≤ length message₀) (l : length bytes ≤ block_size) where
  module _ {number at out : ℕ} {control line gather answer message : List ℕ} where
    taken_by : {code count : ℕ} (name : Told) → Reads (hub_in control₀) line₀ gather₀ answer₀ message₀ bytes (record { hub = hub_in control; taken = at; told = name; answer = out }) line gather answer message →
        number ≡ hub_number name → hub_values name out ≡ out ∷ code ∷ count ∷ [] → control ≡ pick (eqb at 0) control₀ (over (hub_bytes (hub_in control)) control₀) →
        HubTakesBlock control₀ line₀ gather₀ answer₀ message₀ bytes number control line gather answer message (out ∷ code ∷ count ∷ at ∷ [])
    taken_by name reads told values kept =
        record {
          block = record { hub = hub_in control; taken = at; told = name; answer = out };
          hears = block_read (roomy answer₀ message₀ a m) l reads;
          told = told;
          values_are = ap (λ (vs : List ℕ). vs ++ (at ∷ [])) (sym values);
          kept = record { control_is = kept; reads = refl };
        }

    pub takes_all : {code count : ℕ} → Going control₀ line₀ gather₀ answer₀ message₀ bytes number code count at out control line gather answer message → length bytes ≤ at →
        HubTakesBlock control₀ line₀ gather₀ answer₀ message₀ bytes number control line gather answer message (out ∷ code ∷ count ∷ at ∷ [])
    takes_all g h = taken_by g.name (reads_all g.goes.reading h) g.number_is (bare_here g out ∙ rw (g.no_code, g.no_count) refl) g.control_is

    pub takes_turn : {code count : ℕ} {d : Bool} → Turns control₀ line₀ gather₀ answer₀ message₀ bytes number code count at out control line gather answer message d → (at ≡ 0 → ⊥) → d ≡ true →
        HubTakesBlock control₀ line₀ gather₀ answer₀ message₀ bytes number control line gather answer message (out ∷ code ∷ count ∷ at ∷ [])
    takes_turn t some e = taken_by t.name (reads_turn t.turn e) t.number_is t.shows (t.control_is ∙ simp (ne_eqb at 0 some))

  pub takes_silent : {number code count at out n : ℕ} {control line gather answer message control₁ line₁ : List ℕ} →
      Going control₀ line₀ gather₀ answer₀ message₀ bytes number code count at out control line gather answer message →
      CarriesBytes control line (take (length bytes - at) (drop at bytes)) n control₁ line₁ → at + n ≡ length bytes → (length bytes ≡ 0 → ⊥) →
      HubTakesBlock control₀ line₀ gather₀ answer₀ message₀ bytes number control₁ line₁ gather answer message (out ∷ code ∷ count ∷ (at + n) ∷ [])
  takes_silent {at = at} {out} {n} g k e some =
      taken_by g.name (reads_all (goes_silent g k).reading (omega arith)) g.number_is (bare_here g out ∙ rw (g.no_code, g.no_count) refl)
      (control_carried g k ∙ simp (ne_eqb (at + n) 0 (λ z. some (omega arith))))

-- ---- for the loops

-- The control bytes are as many as they were.
pub going_long : {control₀ line₀ gather₀ answer₀ message₀ bytes : List ℕ} {number code count at out : ℕ} {control line gather answer message : List ℕ} →
    Going control₀ line₀ gather₀ answer₀ message₀ bytes number code count at out control line gather answer message → hub_control_size ≤ length control₀ → length control ≡ length control₀
going_long {control₀ = control₀} {at = at} {control = control} g h = ap length g.control_is ∙ by (eqb at 0)
  where
    by : (d : Bool) → length (pick d control₀ (over (hub_bytes (hub_in control)) control₀)) ≡ length control₀
    by true = refl
    by false = let p = hub_size (hub_in control) in length_over (hub_bytes (hub_in control)) control₀ (omega arith)

-- Control bytes and message room are still long enough.
module _ {control₀ line₀ gather₀ answer₀ message₀ bytes : List ℕ} {number code count at out : ℕ} {control line gather answer message : List ℕ}
    (g : Going control₀ line₀ gather₀ answer₀ message₀ bytes number code count at out control line gather answer message) where
  pub still_long : hub_control_size ≤ length control₀ → hub_control_size ≤ length control
  still_long h = let e = going_long g h in omega arith

  pub still_full : message_size ≤ length message₀ → message_size ≤ length message
  still_full h = rw (message_same g.goes) h

-- The turns of the inner loop lead on from wherever it was entered.
pub record Leading (control₀ line₀ gather₀ answer₀ message₀ bytes : List ℕ) (number₀ code₀ count₀ at₀ out₀ : ℕ) (control line gather answer message : List ℕ) (number code count at out : ℕ) : Type 0 where
  pub least : at₀ ≤ at
  pub leads : (c l g a m : List ℕ) → Going c l g a m bytes number₀ code₀ count₀ at₀ out₀ control₀ line₀ gather₀ answer₀ message₀ → Going c l g a m bytes number code count at out control line gather answer message
