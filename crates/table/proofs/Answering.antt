-- What the pair writer leaves in its room: one law for each `return`, and what its loops keep. The numbers answered so far are those
-- whose rows are marked, since a row's number and its place determine each other. Assumes nothing.
use Prim.Native.Nat.{ℕ, zero, suc, ◌+◌, ◌-◌, ◌*◌, ◌≤◌, ◌<◌}
use mathlib.Core.Path.{◌≡◌, refl, sym, ap, ◌∙◌}
use mathlib.Core.Bool.{Bool, true, false, not, ◌||◌}
use mathlib.Core.List.{List, [], ◌∷◌, ◌++◌, append_assoc}
use native.Mathlib.Nat.{zero-add}
use native.Mathlib.Numerals.{add-one}
use native.Mathlib.Omega.{arith}
use lib.Dec.{eqb, ltb}
use lib.ListN.{length, get_or, take, drop, set, replicate, length-append, length-set, length-take, length-drop, get_or-replicate, drop_of_length-le}
use lib.Seq.{drop-cons, take-suc, take-suc-set, take_all, drop-drop, sets-eq, get_or-set_same, get_or-set_other}
use borrow.Author.Tests.{lt-ltb, le-ltb, ltb-true, eqb-true, eqb-false, not-true}
use Rattle.words.specs.Lists.{pick, both, either, over, over_at, Copied}
use Rattle.words.proofs.Lists.{copied_over, length_over_at, part_over, set_over, both_left, both_right, never, either_true, over_behind}
use Rattle.packet.specs.declared.Refusal.TheVariants.{Room}
use Rattle.std.specs.Prelude.{Some, None, Ok, Err}
use Rattle.std.specs.List.{list_any, zip, enumerate_from}
use Rattle.std.proofs.lemmas.List.{get_or_default}
use Rattle.std.proofs.lemmas.Slice.Zip.{length-zip, get_or-zip}
use Rattle.std.proofs.lemmas.List.FromFn.{length-enumerate_from, get_or-enumerate_from}
use Rattle.table.specs.Rows.{parameter_count, pairs_size, rows, place_of, supported}
use Rattle.table.specs.Table.{Values, value_of, member, asked_for, numbers_of, answered_numbers, pair_bytes, answer_data}
use Rattle.table.specs.Promises.{Answers, Place, AllPairs, AskedPairs, Fits, Asks, asks, marks, showing, values_of}
use Rattle.table.specs.declared.Table.{Table}
use Rattle.table.specs.declared.TheConstants.{SETTINGS}
use Rattle.table.proofs.Finding.{many, settings_many, setting_at, setting_row, place_at, same_place, found_at, not_found}

-- FEh anywhere in the list, as the library's `contains` looks for it.
or_either : (a b : Bool) → a || b ≡ either a b
or_either true b = refl
or_either false b = refl

pub member_any : (n : ℕ) (xs : List ℕ) → list_any (λ x. eqb x n) xs ≡ member n xs
unfolding member
member_any n [] = refl
member_any n (x ∷ xs) = or_either (eqb x n) (list_any (λ y. eqb y n) xs) ∙ ap (λ (b : Bool). either (eqb x n) b) (member_any n xs)

-- ---- rooms

-- Two stores, one behind the other.
pub two_stores : (room : List ℕ) (at a b : ℕ) → at + 2 ≤ length room → set (set room at a) (at + 1) b ≡ over_at at (a ∷ b ∷ []) room
unfolding over over_at
two_stores room at a b h = rw (add-one at) (sets-eq (a ∷ b ∷ []) room at h ∙ rw (drop-drop 2 at room, append_assoc) refl)

-- ---- pairs

pub length_pairs : (t : Values) (ns : List ℕ) → length (pair_bytes t ns) ≡ length ns + length ns
unfolding pair_bytes
length_pairs t [] = refl
length_pairs t (n ∷ ns) = let e = length_pairs t ns in omega arith

pub pairs_append : (t : Values) (ns ms : List ℕ) → pair_bytes t (ns ++ ms) ≡ pair_bytes t ns ++ pair_bytes t ms
unfolding pair_bytes
pairs_append t [] ms = refl
pairs_append t (n ∷ ns) ms = rw (pairs_append t ns ms) refl

-- Only present values are shown.
pub pairs_shown : (t : Table) (ns : List ℕ) → pair_bytes (showing t.present) ns ≡ pair_bytes (values_of t) ns
unfolding pair_bytes value_of
pairs_shown t [] = refl
pairs_shown t (n ∷ ns) = rw (pairs_shown t ns) refl

-- One pair more.
pub pair_behind : (values room₀ : List ℕ) (ns : List ℕ) (n at : ℕ) → at ≡ length ns + length ns →
    over_at at (n ∷ get_or values (place_of n) 0 ∷ []) (over (pair_bytes (showing values) ns) room₀) ≡ over (pair_bytes (showing values) (ns ++ (n ∷ []))) room₀
unfolding pair_bytes value_of
pair_behind values room₀ ns n at e =
    over_behind at (pair_bytes (showing values) ns) (n ∷ get_or values (place_of n) 0 ∷ []) room₀ (length_pairs (showing values) ns ∙ sym e)
    ∙ rw (pairs_append (showing values) ns (n ∷ [])) refl

-- ---- `all_pairs`

pub length_numbers : (table : List (List ℕ)) → length (numbers_of table) ≡ length table
unfolding numbers_of
length_numbers [] = refl
length_numbers (row ∷ rest) = ap suc (length_numbers rest)

pub number_of : (table : List (List ℕ)) (i : ℕ) → i < length table → get_or (numbers_of table) i 0 ≡ get_or (get_or table i []) 0 0
unfolding numbers_of
number_of [] i h = absurd (omega arith)
number_of (row ∷ rest) zero h = refl
number_of (row ∷ rest) (suc i) h = number_of rest i (omega arith)

-- The pairs of the first i rows are written.
pub record Listing (values bytes : List ℕ) (i : ℕ) : Type 0 where
  pub long : length bytes ≡ 2 * parameter_count
  pub is : take (2 * i) bytes ≡ pair_bytes (showing values) (take i (numbers_of rows))

pub listing_none : {values bytes : List ℕ} → length bytes ≡ 2 * parameter_count → Listing values bytes 0
unfolding pair_bytes
listing_none l = record { long = l; is = refl }

one_pair : (values : List ℕ) (i : ℕ) → i < length rows →
    pair_bytes (showing values) (take (i + 1) (numbers_of rows)) ≡ pair_bytes (showing values) (take i (numbers_of rows)) ++ (get_or (get_or rows i []) 0 0 ∷ get_or values i 0 ∷ [])
unfolding pair_bytes value_of
one_pair values i h =
    let ns = numbers_of rows in
    let n = get_or (get_or rows i []) 0 0 in
    let l = length_numbers rows in
    let more : take (i + 1) ns ≡ take i ns ++ (n ∷ []) = rw (add-one i, ← number_of rows i h) (take-suc ns i 0 (omega arith)) in
    rw (more) (pairs_append (showing values) (take i ns) (n ∷ []) ∙ rw (place_at i h) refl)

two_more : (bytes : List ℕ) (k a b : ℕ) → k + 1 < length bytes → take (k + 2) (set (set bytes k a) (k + 1) b) ≡ take k bytes ++ (a ∷ b ∷ [])
two_more bytes k a b h =
    let two : k + 2 ≡ suc (k + 1) = omega arith in
    rw (two, take-suc-set (set bytes k a) (k + 1) b (simp length-set h), add-one k, take-suc-set bytes k a (omega arith)) (append_assoc (take k bytes) (a ∷ []) (b ∷ []))

pub listing_more : {values bytes : List ℕ} {i : ℕ} → Listing values bytes i → i < parameter_count →
    Listing values (set (set bytes (2 * i) (get_or (setting_at i) 0 0)) (2 * i + 1) (get_or values i 0)) (i + 1)
listing_more {values} {bytes} {i} k h =
    let m = many in
    let n : (get_or (setting_at i) 0 0) ≡ get_or (get_or rows i []) 0 0 = ap (λ (row : List ℕ). get_or row 0 0) (sym (setting_row i)) in
    let twice : 2 * (i + 1) ≡ 2 * i + 2 = omega arith in
    record {
      long = simp length-set k.long;
      is =
          rw twice
          (two_more bytes (2 * i) (get_or (setting_at i) 0 0) (get_or values i 0) (omega (arith, k.long))
          ∙ rw (k.is, n) (sym (one_pair values i (omega arith))));
    }

pub listing_all : {values bytes : List ℕ} {i : ℕ} → Listing values bytes i → parameter_count ≤ i → AllPairs values bytes
listing_all {values} {bytes} {i} k h =
    let m = many in
    let l = length_numbers rows in
    record { is = sym (take_all (2 * i) bytes (omega (arith, k.long))) ∙ (k.is ∙ ap (pair_bytes (showing values)) (take_all i (numbers_of rows) (omega arith))) }

-- What a turn of the loop is handed: the place, the row and the value that stand there.
module _ (values : List ℕ) (l : length values ≡ parameter_count) where
  pub turns_many : length (enumerate_from 0 (zip SETTINGS values)) ≡ parameter_count
  turns_many = length-enumerate_from 0 (zip SETTINGS values) ∙ (length-zip SETTINGS values ∙ (let m = settings_many in omega arith))

  pub turn_at : (k i v : ℕ) (row : List ℕ) → k < parameter_count → (i, (row, v)) ≡ get_or (enumerate_from 0 (zip SETTINGS values)) k (i, (row, v)) →
      (i ≡ k) × (row ≡ setting_at k) × (v ≡ get_or values k 0)
  turn_at k i v row h e =
      let m = settings_many in
      let n = turns_many in
      let z = length-zip SETTINGS values in
      let p = e ∙ (get_or-enumerate_from 0 (zip SETTINGS values) k (i, (row, v)) (omega arith) ∙ ap (λ q. (0 + k, q)) (get_or-zip SETTINGS values k (row, v) (omega arith) (omega arith))) in
      (ap (λ q. q.0) p ∙ zero-add k, ap (λ q. q.1.0) p ∙ get_or_default SETTINGS k row [] (omega arith), ap (λ q. q.1.1) p ∙ get_or_default values k v 0 (omega arith))

pub listing_turn : {A : Type 0} {values bytes row : List ℕ} {i v : ℕ} (xs : List A) (x : A) → length values ≡ parameter_count → Listing values bytes (length xs) →
    length xs < length (enumerate_from 0 (zip SETTINGS values)) → (i, (row, v)) ≡ get_or (enumerate_from 0 (zip SETTINGS values)) (length xs) (i, (row, v)) →
    Listing values (set (set bytes (2 * i) (get_or row 0 0)) (2 * i + 1) v) (length (xs ++ (x ∷ [])))
listing_turn {values} {row = row} {i} {v} xs x l k h e =
    let n = turns_many values l in
    let t = turn_at values l (length xs) i v row (omega arith) e in
    rw (length-append xs (x ∷ []), t.0, t.1, t.2) (listing_more k (omega arith))

pub listing_end : {values bytes : List ℕ} {k : ℕ} → length values ≡ parameter_count → Listing values bytes k → k ≡ length (enumerate_from 0 (zip SETTINGS values)) → AllPairs values bytes
listing_end {values} l k e = let n = turns_many values l in listing_all k (omega arith)

-- ---- `ask`

-- The code asks what the definition asks.
in_rows : (n : ℕ) → ltb (place_of n) parameter_count ≡ supported n
unfolding supported
in_rows n = refl

pub marks_set : (seen : List Bool) (i : ℕ) → i < length seen → get_or seen i false ≡ false → marks (set seen i true) ≡ marks seen + 1
unfolding marks
marks_set [] i h e = absurd (omega arith)
marks_set (true ∷ bs) zero h e = never (cc)
marks_set (false ∷ bs) zero h e = omega arith
marks_set (true ∷ bs) (suc i) h e = let r = marks_set bs i (omega arith) e in omega arith
marks_set (false ∷ bs) (suc i) h e = marks_set bs i (omega arith) e

pub marks_most : (seen : List Bool) → marks seen ≤ length seen
unfolding marks
marks_most [] = omega arith
marks_most (true ∷ bs) = let r = marks_most bs in omega arith
marks_most (false ∷ bs) = let r = marks_most bs in omega arith

pub fits_most : {seen : List Bool} {at : ℕ} {room : List ℕ} → Fits seen at room → at ≤ 2 * parameter_count
fits_most {seen} f = let m = marks_most seen in omega (arith, f.at_is, f.seen_is)

-- As long as a row is not marked there is room for its pair.
left_by_lem : (seen : List Bool) (at row : ℕ) (room : List ℕ) → Fits seen at room → row < parameter_count → get_or seen row false ≡ false → at + 2 ≤ length room
left_by_lem seen at row room f h e =
    let s = marks_set seen row (omega (arith, f.seen_is)) e in
    let m = marks_most (set seen row true) in
    let l = length-set seen row true in
    omega (arith, f.at_is, f.room_is, f.seen_is)

ask_not : {seen : List Bool} {at number : ℕ} {room values : List ℕ} → asks seen number ≡ false → Asks seen at values number room at seen room
ask_not e = record { is = simp e; seen_is = simp e; room_is = simp e }

pub ask_unknown : {seen : List Bool} {at number : ℕ} {room values : List ℕ} → Place number None → Asks seen at values number room at seen room
unfolding asks
ask_unknown {number = number} p = ask_not (simp (in_rows number ∙ not_found p))

module _ {seen : List Bool} {at number row : ℕ} {room : List ℕ} (p : Place number (Some row)) where
  pub room_left : Fits seen at room → get_or seen row false ≡ false → at + 2 ≤ length room
  room_left f e = left_by_lem seen at row room f (p.inside) e

  module _ {values : List ℕ} where
    pub ask_again : get_or seen row false ≡ true → Asks seen at values number room at seen room
    unfolding asks
    ask_again e = ask_not (simp (sym (found_at p), lt-ltb row parameter_count (p.inside), e))

    pub ask_new : Fits seen at room → get_or seen row false ≡ false →
        Asks seen at values number room (at + 2) (set seen row true) (set (set room at number) (at + 1) (get_or values row 0))
    unfolding asks
    ask_new f e =
        let y : asks seen number ≡ true = simp (sym (found_at p), lt-ltb row parameter_count (p.inside), e) in
        record {
          is = simp y;
          seen_is = rw y (rw (found_at p) refl);
          room_is = rw y (two_stores room at number (get_or values row 0) (room_left f e) ∙ rw (found_at p) refl);
        }

-- ---- `asked_pairs`

pub either_assoc : (a b d : Bool) → either a (either b d) ≡ either (either a b) d
either_assoc true b d = refl
either_assoc false b d = refl

pub member_append : (n : ℕ) (ns ms : List ℕ) → member n (ns ++ ms) ≡ either (member n ns) (member n ms)
unfolding member
member_append n [] ms = refl
member_append n (x ∷ xs) ms = rw (member_append n xs ms) (either_assoc (eqb x n) (member n xs) (member n ms))

-- The numbers answered so far are those of the marked rows, and their pairs are written.
pub record Asking (values asked room₀ room : List ℕ) (seen : List Bool) (at i : ℕ) : Type 0 where
  pub sofar : List ℕ
  pub here : i ≤ length asked
  pub fits : Fits seen at room
  pub long : length room ≡ length room₀
  pub size : at ≡ length sofar + length sofar
  pub marked : (n : ℕ) → supported n ≡ true → get_or seen (place_of n) false ≡ member n sofar
  pub is : room ≡ over (pair_bytes (showing values) sofar) room₀
  pub rest : asked_for [] asked ≡ asked_for sofar (drop i asked)

pub marks_none : (n : ℕ) → marks (replicate n false) ≡ 0
unfolding marks
marks_none zero = refl
marks_none (suc n) = marks_none n

pub asking_none : {values asked room : List ℕ} → 2 * parameter_count ≤ length room → Asking values asked room room (replicate parameter_count false) 0 0
unfolding over pair_bytes member supported
asking_none h =
    record {
      sofar = [];
      here = omega arith;
      fits = record { at_is = let z = marks_none parameter_count in omega arith; room_is = h; seen_is = refl };
      long = refl;
      size = refl;
      marked = λ n e. get_or-replicate parameter_count (place_of n) false false (ltb-true (place_of n) parameter_count e);
      is = refl;
      rest = refl;
    }

asked_step : (sofar asked : List ℕ) (i : ℕ) → i < length asked →
    asked_for sofar (drop i asked)
    ≡ asked_for (pick (both (supported (get_or asked i 0)) (not (member (get_or asked i 0) sofar))) (sofar ++ (get_or asked i 0 ∷ [])) sofar) (drop (i + 1) asked)
unfolding asked_for
asked_step sofar asked i h = rw (add-one i, drop-cons asked i 0 h) refl

asks_by : (seen : List Bool) (sofar : List ℕ) (n : ℕ) → (supported n ≡ true → get_or seen (place_of n) false ≡ member n sofar) →
    (d : Bool) → supported n ≡ d → asks seen n ≡ both (supported n) (not (member n sofar))
unfolding asks
asks_by seen sofar n m true e = simp (in_rows n ∙ e, e, m e)
asks_by seen sofar n m false e = simp (in_rows n ∙ e, e)

-- Marking one more row.
pub either_false : (a : Bool) → either a false ≡ a
either_false true = refl
either_false false = refl

pub marked_by : (seen : List Bool) (sofar : List ℕ) (n m : ℕ) → place_of n < length seen → supported m ≡ true → get_or seen (place_of m) false ≡ member m sofar →
    (d : Bool) → eqb n m ≡ d → get_or (set seen (place_of n) true) (place_of m) false ≡ either (member m sofar) (either d false)
unfolding supported
marked_by seen sofar n m h s k true e =
    rw (← eqb-true n m e) (get_or-set_same seen (place_of n) true false h ∙ sym (either_true (member n sofar)))
marked_by seen sofar n m h s k false e =
    get_or-set_other seen (place_of n) (place_of m) true false (λ q. eqb-false n m e (sym (same_place m n (ltb-true (place_of m) parameter_count s) q)))
    ∙ (k ∙ sym (either_false (member m sofar)))

module _ {values asked room₀ room : List ℕ} {seen : List Bool} {at i : ℕ} (k : Asking values asked room₀ room seen at i) (h : i < length asked) where
  asking_same : asks seen (get_or asked i 0) ≡ both (supported (get_or asked i 0)) (not (member (get_or asked i 0) k.sofar))
  asking_same = asks_by seen k.sofar (get_or asked i 0) (k.marked (get_or asked i 0)) (supported (get_or asked i 0)) refl

  asking_kept : asks seen (get_or asked i 0) ≡ false → Asking values asked room₀ room seen at (i + 1)
  asking_kept e =
      record {
        sofar = k.sofar;
        here = omega arith;
        fits = k.fits;
        long = k.long;
        size = k.size;
        marked = k.marked;
        is = k.is;
        rest = k.rest ∙ (asked_step k.sofar asked i h ∙ simp (sym asking_same ∙ e));
      }

  asking_new : asks seen (get_or asked i 0) ≡ true →
      Asking values asked room₀ (over_at at (get_or asked i 0 ∷ get_or values (place_of (get_or asked i 0)) 0 ∷ []) room) (set seen (place_of (get_or asked i 0)) true) (at + 2) (i + 1)
  unfolding supported member
  asking_new e =
      let n = get_or asked i 0 in
      let b = sym asking_same ∙ e in
      let s = both_left (supported n) (not (member n k.sofar)) b in
      let f = not-true (member n k.sofar) (both_right (supported n) (not (member n k.sofar)) b) in
      let p = ltb-true (place_of n) parameter_count s in
      let g : get_or seen (place_of n) false ≡ false = k.marked n s ∙ f in
      let inside : place_of n < length seen = omega (arith, k.fits.seen_is) in
      let l = left_by_lem seen at (place_of n) room k.fits p g in
      let w = length_over_at at (n ∷ get_or values (place_of n) 0 ∷ []) room l in
      record {
        sofar = k.sofar ++ (n ∷ []);
        here = omega arith;
        fits =
            record {
              at_is = let z = marks_set seen (place_of n) inside g in omega (arith, k.fits.at_is);
              room_is = omega (arith, k.fits.room_is);
              seen_is = length-set seen (place_of n) true ∙ k.fits.seen_is;
            };
        long = w ∙ k.long;
        size = let z = length-append k.sofar (n ∷ []) in omega (arith, k.size);
        marked = λ m t. marked_by seen k.sofar n m inside t (k.marked m t) (eqb n m) refl ∙ sym (member_append m k.sofar (n ∷ []));
        is = rw k.is (pair_behind values room₀ k.sofar n at k.size);
        rest = k.rest ∙ (asked_step k.sofar asked i h ∙ simp b);
      }

  asking_by : {r : ℕ} {seen' : List Bool} {room' : List ℕ} → Asks seen at values (get_or asked i 0) room r seen' room' →
      (d : Bool) → asks seen (get_or asked i 0) ≡ d → Asking values asked room₀ room' seen' r (i + 1)
  asking_by a true e = rw (a.is, a.seen_is, a.room_is) (rw e (asking_new e))
  asking_by a false e = rw (a.is, a.seen_is, a.room_is) (rw e (asking_kept e))

  pub asking_more : {r : ℕ} {seen' : List Bool} {room' : List ℕ} → Asks seen at values (get_or asked i 0) room r seen' room' → Asking values asked room₀ room' seen' r (i + 1)
  asking_more a = asking_by a (asks seen (get_or asked i 0)) refl

pub asking_all : {values asked room₀ room : List ℕ} {seen : List Bool} {at i : ℕ} → Asking values asked room₀ room seen at i → length asked ≤ i → AskedPairs values asked room₀ at room
unfolding asked_for
asking_all {values} {asked} {room₀} {i = i} k h =
    let e : asked_for [] asked ≡ k.sofar = k.rest ∙ rw (drop_of_length-le asked {i = i} h) refl in
    record {
      is = rw e (let z = length_pairs (showing values) k.sofar in omega (arith, k.size));
      room_is = k.is ∙ rw e refl;
      most = fits_most k.fits;
    }

-- ---- `answer`

pub answer_room : {t : Table} {asked room : List ℕ} → length room < pairs_size → Answers t asked room (Err Room) room
unfolding over
answer_room {t} {asked} {room} h = record { is = simp (lt-ltb (length room) (pairs_size) h); room_is = simp (lt-ltb (length room) (pairs_size) h) }

answer_data_lem : (t : Table) (asked ns : List ℕ) → answered_numbers asked ≡ ns → answer_data (values_of t) asked ≡ 0xFF ∷ pair_bytes (showing t.present) ns
unfolding answer_data
answer_data_lem t asked ns a = rw (a, pairs_shown t ns) refl

-- The beep byte, and the k bytes behind it that were lent and have come back with the pairs at their front.
answer_by : (t : Table) (asked room part ns : List ℕ) (count k : ℕ) → pairs_size ≤ length room → 1 + k ≤ length room → answered_numbers asked ≡ ns →
    count ≡ length (pair_bytes (showing t.present) ns) → count ≤ k →
    part ≡ over (pair_bytes (showing t.present) ns) (take k (drop 1 (set room 0 0xFF))) →
    Answers t asked room (Ok (count + 1)) (take 1 (set room 0 0xFF) ++ (part ++ drop k (drop 1 (set room 0 0xFF))))
answer_by t asked room part ns count k h j a n m e =
    let q = pair_bytes (showing t.present) ns in
    let l = length-set room 0 0xFF in
    let y = le-ltb (length room) (pairs_size) h in
    let d = answer_data_lem t asked ns a in
    record {
      is = simp (y, d) (ap Ok (omega arith));
      room_is =
          part_over 1 k q (set room 0 0xFF) part (omega arith) (omega arith) e
          ∙ simp (y, d) (rw (set_over room 0 0xFF (omega arith)) (over_behind 1 (0xFF ∷ []) q room refl));
    }

-- Two bytes for each parameter.
pub length_all : {values all : List ℕ} → AllPairs values all → length all ≡ 2 * parameter_count
length_all {values} p =
    let n = length_pairs (showing values) (numbers_of rows) in
    let l = length_numbers rows in
    let m = many in
    ap length p.is ∙ omega arith

asks_all : (asked : List ℕ) (b : Bool) → b ≡ list_any (λ x. eqb x 0xFE) asked → member 0xFE asked ≡ b
asks_all asked b k = sym (k ∙ member_any 0xFE asked)

module _ {t : Table} {asked room part : List ℕ} {b : Bool} (h : pairs_size ≤ length room) (k : b ≡ list_any (λ x. eqb x 0xFE) asked) where
  pub answer_all : {all : List ℕ} → b ≡ true → AllPairs t.present all → Copied all (take (length (set room 0 0xFF) - 1) (drop 1 (set room 0 0xFF))) part →
      Answers t asked room (Ok pairs_size) (take 1 (set room 0 0xFF) ++ (part ++ drop (length (set room 0 0xFF) - 1) (drop 1 (set room 0 0xFF))))
  unfolding answered_numbers
  answer_all {all} e p c =
      let l = length-set room 0 0xFF in
      let n = length_all p in
      let fits : length all ≤ length (take (length (set room 0 0xFF) - 1) (drop 1 (set room 0 0xFF))) = simp (length-take, length-drop) (omega arith) in
      answer_by t asked room part (numbers_of rows) (2 * parameter_count) (length (set room 0 0xFF) - 1) h (omega arith) (simp (asks_all asked b k ∙ e)) (rw p.is at (sym n)) (omega arith)
      (copied_over fits c ∙ ap (λ (bytes : List ℕ). over bytes (take (length (set room 0 0xFF) - 1) (drop 1 (set room 0 0xFF)))) p.is)

  pub answer_asked : {count : ℕ} → b ≡ false → AskedPairs t.present asked (take (length (set room 0 0xFF) - 1) (drop 1 (set room 0 0xFF))) count part →
      Answers t asked room (Ok (count + 1)) (take 1 (set room 0 0xFF) ++ (part ++ drop (length (set room 0 0xFF) - 1) (drop 1 (set room 0 0xFF))))
  unfolding answered_numbers
  answer_asked {count} e p =
      let l = length-set room 0 0xFF in
      answer_by t asked room part (asked_for [] asked) count (length (set room 0 0xFF) - 1) h (omega arith) (simp (asks_all asked b k ∙ e)) p.is (omega (arith, p.most)) p.room_is
