-- What the writer leaves in its room: one law for each `return`, and what its loops keep. Assumes nothing.
use Prim.Native.Nat.{ℕ, suc, min, ◌+◌, ◌-◌, ◌≤◌, ◌<◌}
use mathlib.Core.Path.{◌≡◌, refl, sym, ap, ◌∙◌}
use mathlib.Core.Bool.{Bool, true, false}
use mathlib.Core.List.{List, [], ◌∷◌, ◌++◌, append_assoc, append-nil}
use native.Mathlib.Numerals.{add-one}
use native.Mathlib.Omega.{arith}
use lib.Dec.{ltb}
use lib.ListN.{length, get_or, take, drop, set, length-append, length-set, length-take, length-drop}
use lib.Seq.{get_or-drop, take-suc, take_all, length-take-le}
use borrow.Author.Tests.{lt-ltb, le-ltb}
use Rattle.words.specs.Lists.{pick, over, Over, Copied}
use Rattle.words.proofs.Lists.{never, copied_over, length_over, over_nil, back, behind, set_over_at, over_take, over_behind}
use Rattle.packet.specs.declared.Refusal.{Refusal}
use Rattle.packet.specs.declared.Refusal.TheVariants.{Room}
use Rattle.table.specs.Rows.{parameter_count, rows}
use Rattle.table.specs.Table.{Values, value_of, numbers_of, pair_bytes}
use Rattle.table.specs.Promises.{values_of, showing, AllPairs}
use Rattle.table.specs.declared.Table.{Table}
use Rattle.std.specs.Prelude.{Result, Ok, Err}
use Rattle.table.specs.declared.TheConstants.{SETTINGS}
use Rattle.table.proofs.Finding.{many, settings_many, place_at, one_more, setting_at, setting_row}
use Rattle.table.proofs.Answering.{length_all}
use Rattle.saved.specs.Saved.{edition1, pairs_of, locks_of, lock_count, form_of, set_size}
use Rattle.saved.specs.Promises.{Saves, Puts, PutsLocks, lock_bytes}
use Rattle.saved.proofs.Forms.{one_most, locks_snoc, count_snoc, count_most}
use Rattle.saved.proofs.First.{length_pairs1, length_locks1}

-- The rows up to one more.
more_rows : (i : ℕ) → i < length rows → take (i + 1) rows ≡ take i rows ++ (get_or rows i [] ∷ [])
more_rows i h = rw (add-one i) (take-suc rows i [] h)

-- ---- the pairs

pairs_from : (table : List (List ℕ)) (values : List ℕ) (t : Values) →
    ((k : ℕ) → k < length table → value_of t (get_or (get_or table k []) 0 0) ≡ get_or values k 0) → pair_bytes t (numbers_of table) ≡ pairs_of edition1 table values
unfolding pair_bytes numbers_of pairs_of
pairs_from [] values t k = refl
pairs_from (row ∷ rest) values t k =
    rw (
      k 0 (omega arith),
      pairs_from rest (drop 1 values) t (λ i h. k (suc i) (omega arith) ∙ sym (rw (get_or-drop 1 values i 0, one_more i) refl)),
    )
    refl

-- The table's pairs are those of the form.
pub pairs_written : (values : List ℕ) → pair_bytes (showing values) (numbers_of rows) ≡ pairs_of edition1 rows values
unfolding value_of
pairs_written values = pairs_from rows values (showing values) (λ k h. rw (place_at k h) refl)

-- ---- `put_locks`

-- The numbers of the locked ones among the first i rows are written, behind the first byte.
pub record Locking (locked : List Bool) (room₀ room : List ℕ) (count i : ℕ) : Type 0 where
  pub at : i ≤ length rows
  pub fits : length rows < length room₀
  pub long : length room ≡ length room₀
  pub few : count ≤ i
  pub count_is : count ≡ lock_count (take i rows) locked
  pub is : room ≡ over (take 1 room₀ ++ locks_of edition1 (take i rows) locked) room₀

pub locking_none : {locked : List Bool} {room : List ℕ} → length rows < length room → Locking locked room room 0 0
unfolding locks_of lock_count
locking_none {locked} {room} h =
    record {
      at = omega arith;
      fits = h;
      long = refl;
      few = omega arith;
      count_is = refl;
      is = rw (append-nil (take 1 room)) (sym (over_take 1 room));
    }

locked_by : (count n : ℕ) (locks room₀ room room' : List ℕ) (b : Bool) → 0 < length room₀ → count + 1 < length room → length locks ≡ count →
    room ≡ over (take 1 room₀ ++ locks) room₀ → room' ≡ pick b (set room (count + 1) n) room →
    room' ≡ over (take 1 room₀ ++ (locks ++ pick b (n ∷ []) [])) room₀
locked_by count n locks room₀ room room' true s h k e f =
    let l : length (take 1 room₀ ++ locks) ≡ count + 1 = simp (length-append, length-take) (omega arith) in
    f
    ∙ (set_over_at room (count + 1) n h
    ∙ rw (e) (over_behind (count + 1) (take 1 room₀ ++ locks) (n ∷ []) room₀ l ∙ rw (append_assoc (take 1 room₀) locks (n ∷ [])) refl))
locked_by count n locks room₀ room room' false s h k e f = f ∙ (e ∙ rw (append-nil locks) refl)

same_long : (count n : ℕ) (room : List ℕ) (b : Bool) → length (pick b (set room (count + 1) n) room) ≡ length room
same_long count n room true = length-set room (count + 1) n
same_long count n room false = refl

locking_more : {locked : List Bool} {room₀ room : List ℕ} {count i : ℕ} {count' : ℕ} {room' : List ℕ} → Locking locked room₀ room count i → i < length rows →
    count' ≡ count + pick (get_or locked i false) 1 0 → room' ≡ pick (get_or locked i false) (set room (count + 1) (get_or (get_or rows i []) 0 0)) room →
    Locking locked room₀ room' count' (i + 1)
locking_more {locked} {room₀} {room} {count} {i} {count'} {room'} k h count_by room_by =
    let n = get_or (get_or rows i []) 0 0 in
    let l = length-take-le i rows (omega arith) in
    let o = one_most (get_or locked i false) in
    let locks = rw (l) at (locks_snoc edition1 (take i rows) (get_or rows i []) locked) in
    let counts = rw (l) at (count_snoc (take i rows) (get_or rows i []) locked) in
    record {
      at = omega arith;
      fits = k.fits;
      long = rw room_by (same_long count n room (get_or locked i false) ∙ k.long);
      few = omega (arith, k.few, count_by);
      count_is = rw (more_rows i h) (omega (arith, count_by, k.count_is));
      is =
          rw (more_rows i h, locks)
          (locked_by count n (locks_of edition1 (take i rows) locked) room₀ room room' (get_or locked i false) (omega (arith, k.fits))
          (omega (arith, k.fits, k.long, k.few)) (length_locks1 (take i rows) locked ∙ sym k.count_is) k.is room_by);
    }

module _ {locked : List Bool} {room₀ room : List ℕ} {count i : ℕ} (k : Locking locked room₀ room count i) (h : i < length SETTINGS) where
  pub locking_fits : count + 1 < length room
  locking_fits = let m = settings_many in let n = many in omega (arith, k.fits, k.long, k.few)

  pub locking_one : {row : List ℕ} {j : ℕ} → j ≡ i + 1 → row ≡ setting_at i → get_or locked i false ≡ true → Locking locked room₀ (set room (count + 1) (get_or row 0 0)) (count + 1) j
  locking_one {row} q r e =
      let n : get_or row 0 0 ≡ get_or (get_or rows i []) 0 0 = ap (λ (row : List ℕ). get_or row 0 0) (r ∙ sym (setting_row i)) in
      rw q (locking_more k (let s = settings_many in let m = many in omega arith) (rw e refl) (rw (e, n) refl))

  pub locking_not : {j : ℕ} → j ≡ i + 1 → get_or locked i false ≡ false → Locking locked room₀ room count j
  locking_not q e = rw q (locking_more k (let s = settings_many in let m = many in omega arith) (rw e (omega arith)) (rw e refl))

pub locking_few : {locked : List Bool} {room₀ room : List ℕ} {count i : ℕ} → Locking locked room₀ room count i → count ≤ parameter_count
locking_few k = let m = many in omega (arith, k.few, k.at)

first_byte : (count : ℕ) (locks room : List ℕ) → 0 < length room → set (over (take 1 room ++ locks) room) 0 count ≡ over (count ∷ locks) room
unfolding over
first_byte count locks [] h = absurd (omega arith)
first_byte count locks (x ∷ xs) h = refl

pub locking_all : {locked : List Bool} {room₀ room : List ℕ} {count i : ℕ} → Locking locked room₀ room count i → length locked ≡ parameter_count → i ≡ min (length SETTINGS) (length locked) →
    PutsLocks locked room₀ (count + 1) (set room 0 count)
locking_all {locked} {room₀} {room} {count} {i} k l h =
    let whole = take_all i rows (let m = many in let s = settings_many in omega arith) in
    let count_is : count ≡ lock_count rows locked = k.count_is ∙ rw whole refl in
    let l = length_locks1 rows locked in
    let m = count_most rows locked in
    record {
      is = omega arith;
      room_is = rw (← count_is, k.is, whole) (first_byte count (locks_of edition1 rows locked) room₀ (omega (arith, k.fits)));
      most = let z = many in omega arith;
    }

-- ---- `put` and `save`

pub front_put : {room : List ℕ} → 2 ≤ length room → Over (1 ∷ length rows ∷ []) room (set (set room 0 1) 1 9)
unfolding over
front_put {room = []} h = absurd (omega arith)
front_put {room = x ∷ []} h = absurd (omega arith)
front_put {room = x ∷ y ∷ room} h = record { is = rw many refl }

-- The parts of a form, each behind the one before it.
pub form_put : {t : Table} {room room₁ room₂ all part part₂ : List ℕ} {count : ℕ} → set_size ≤ length room → Over (1 ∷ length rows ∷ []) room room₁ →
    AllPairs t.permanent all → Copied all (take (length room₁ - 2) (drop 2 room₁)) part → room₂ ≡ back 2 part room₁ →
    PutsLocks t.locked (take (length room₂ - 20) (drop 20 room₂)) count part₂ → Puts t room (20 + count) (back 20 part₂ room₂)
unfolding form_of
form_put {t} {room} {room₁} {room₂} {all} {part} {part₂} {count} h front pairs copied f locks =
    let m = many in
    let p = pairs_of edition1 rows t.permanent in
    let q = lock_bytes t.locked in
    let lp = length_pairs1 rows t.permanent in
    let lq = length_locks1 rows t.locked in
    let c = count_most rows t.locked in
    let l : length room₁ ≡ length room = ap length front.is ∙ length_over (1 ∷ length rows ∷ []) room (omega arith) in
    let n = length_all pairs in
    let fits : length all ≤ length (take (length room₁ - 2) (drop 2 room₁)) = simp (length-take, length-drop) (omega arith) in
    let same : all ≡ p = pairs.is ∙ pairs_written t.permanent in
    let written : part ≡ over p (take (length room₁ - 2) (drop 2 room₁)) =
    copied_over fits copied ∙ ap (λ (bytes : List ℕ). over bytes (take (length room₁ - 2) (drop 2 room₁))) same in
    let both : room₂ ≡ over (1 ∷ length rows ∷ p) room = f ∙ behind 2 (1 ∷ length rows ∷ []) p room room₁ part refl (omega arith) front.is written in
    record {
      is = let l = length-append p q in omega (arith, locks.is);
      room_is = behind 20 (1 ∷ length rows ∷ p) q room room₂ part₂ (omega arith) (omega arith) both locks.room_is;
      most = omega (arith, locks.most);
    }

pub save_small : {t : Table} {room : List ℕ} → length room < set_size → Saves t room (Err Room) room
unfolding over
save_small {room = room} h = record { is = simp (lt-ltb (length room) set_size h); room_is = simp (lt-ltb (length room) set_size h) }

pub save_whole : {t : Table} {room room' : List ℕ} {count : ℕ} → set_size ≤ length room → Puts t room count room' → Saves t room (Ok count) room'
save_whole {room = room} h p =
    record { is = simp (le-ltb (length room) set_size h) (ap Ok p.is); room_is = p.room_is ∙ simp (le-ltb (length room) set_size h) }

-- A refused writing is by number 13, and leaves every byte of the room.
refused_by : (d : Bool) (n : ℕ) (bytes room room' : List ℕ) {made : Result ℕ Refusal} {x : Refusal} → made ≡ pick d (Err Room) (Ok n) → room' ≡ over (pick d [] bytes) room → made ≡ Err x →
    (x ≡ Room) × (room' ≡ room)
refused_by true n bytes room room' e f q = (cc, f ∙ over_nil room)
refused_by false n bytes room room' e f q = never (cc)

pub save_refused : {t : Table} {room room' : List ℕ} {made : Result ℕ Refusal} {x : Refusal} → Saves t room made room' → made ≡ Err x → (x ≡ Room) × (room' ≡ room)
save_refused {t} {room} {room'} k q =
    refused_by (ltb (length room) set_size) (length (form_of edition1 (values_of t))) (form_of edition1 (values_of t)) room room' k.is k.room_is q
