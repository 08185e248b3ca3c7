-- What the calls that make and change a table leave in it: one law for each `return`, and what the loops over the pairs keep.
-- The pairs of an even number of bytes are read two bytes further at each turn. Assumes nothing.
use Prim.Native.Nat.{ℕ, suc, ◌+◌, ◌%◌, ◌≤◌, ◌<◌}
use mathlib.Core.Path.{◌≡◌, refl, sym, ap, ◌∙◌}
use mathlib.Core.Bool.{Bool, true, false, not, ◌&&◌}
use mathlib.Core.List.{List, [], ◌∷◌}
use native.Mathlib.Numerals.{add-one}
use native.Mathlib.Omega.{arith}
use lib.Dec.{eqb, leb}
use lib.ListN.{length, get_or, drop, set, replicate, length-set, drop_of_length-le}
use lib.Seq.{drop-cons, set_out}
use borrow.Author.Tests.{lt-ltb, eqb-true, eqb-false}
use Rattle.words.specs.Lists.{pick, both}
use Rattle.words.proofs.Lists.{both_false}
use Rattle.packet.specs.Sizes.{data_size}
use Rattle.packet.specs.declared.Refusal.TheVariants.{Data, Setting}
use Rattle.table.specs.Rows.{parameter_count, rows, place_of, allowed, defaults_of}
use Rattle.table.specs.Table.{wrong_length, pairs, behind, read_pairs, is_read, send_length_allowed, request_length_allowed, locked_in, settable, all_settable, set_all, changed, set_pairs, no_locks, defaults, set_defaults, power_up}
use Rattle.std.specs.Prelude.{map, ◌/◌, Some, None}
use Rattle.std.specs.List.{list_all}
use Rattle.std.specs.Simd.{first_chunks}
use Rattle.table.specs.Promises.{Defaults, SetsDefaults, PowerUp, Sets, SendLengthAllowed, RequestLengthAllowed, Restores, Place, Takes, Settable, AllSettable, Full, Puts, Changes, pair_of, changed_of}
use Rattle.table.specs.declared.Table.{Table}
use Rattle.std.specs.Prelude.{Ok, Err}
use Rattle.table.proofs.Finding.{setting_at, restored_none, found_at, not_found, not_placed, allowed_unknown, allowed_row}

module _ {t : Table} {present permanent : List ℕ} (p : Restores t.locked t.present present) (q : Restores t.locked t.permanent permanent) where
  pub defaults_set : SetsDefaults t (record { present = present; permanent = permanent; locked = t.locked })
  unfolding set_defaults
  defaults_set = record { is = rw (p.is, q.is) refl }

pub defaults_made : {r : Table} → SetsDefaults (record { present = replicate parameter_count 0; permanent = replicate parameter_count 0; locked = no_locks }) r → Defaults r
unfolding defaults set_defaults
defaults_made k = record { is = k.is ∙ rw (restored_none parameter_count (replicate parameter_count 0) (defaults_of rows)) refl }

pub powered_up : {t : Table} → PowerUp t (record { present = t.permanent; permanent = t.permanent; locked = t.locked })
unfolding power_up
powered_up = record { is = refl }

-- ---- reading pairs

half_more : (n : ℕ) → suc (suc n) / 2 ≡ suc (n / 2)
half_more n = omega arith

-- An even number of bytes is read as its chunks of two.
pub read_even : (bytes : List ℕ) → length bytes % 2 ≡ 0 → read_pairs bytes ≡ pairs (map pair_of (first_chunks 2 (length bytes / 2) bytes))
unfolding read_pairs behind
read_even [] e = refl
read_even (n ∷ []) e = absurd (omega arith)
read_even (n ∷ v ∷ rest) e = rw (read_even rest (omega arith), half_more (length rest)) refl

pub read_odd : (bytes : List ℕ) → (length bytes % 2 ≡ 0 → ⊥) → read_pairs bytes ≡ wrong_length
unfolding read_pairs behind
read_odd [] d = absurd (d refl)
read_odd (n ∷ []) d = refl
read_odd (n ∷ v ∷ rest) d = rw (read_odd rest (λ e. d (omega arith))) refl

-- Pairs are read from an even number of bytes and from no other; with the beep byte that is an odd number.
read_by : (bytes : List ℕ) (d : Bool) → eqb (suc (length bytes) % 2) 1 ≡ d → is_read (read_pairs bytes) ≡ d
unfolding is_read
read_by bytes true e = let odd = eqb-true (suc (length bytes) % 2) 1 e in rw (read_even bytes (omega arith)) refl
read_by bytes false e = rw (read_odd bytes (λ z. eqb-false (suc (length bytes) % 2) 1 e (omega arith))) refl

pub odd_read : (carried : List ℕ) → send_length_allowed carried ≡ eqb (length carried % 2) 1
unfolding send_length_allowed
odd_read [] = refl
odd_read (code ∷ bytes) = simp (lt-ltb 0 (suc (length bytes)) (omega arith)) (read_by bytes (eqb (suc (length bytes) % 2) 1) refl)

pub send_length : {carried : List ℕ} → SendLengthAllowed carried (eqb (length carried % 2) 1)
send_length {carried} = record { is = sym (odd_read carried) }

pub request_none : {carried : List ℕ} {empty : Bool} → empty ≡ true → length carried ≡ 0 → RequestLengthAllowed carried (not empty)
unfolding request_length_allowed
request_none {carried} n e = record { is = simp (n, e) }

pub request_some : {carried : List ℕ} → (length carried ≡ 0 → ⊥) → RequestLengthAllowed carried (leb (length carried) data_size)
unfolding request_length_allowed
request_some {carried} n = record { is = sym (simp (lt-ltb 0 (length carried) (omega arith))) }

-- ---- `settable` and `all_settable`

locked_at : (locked : List Bool) {number at : ℕ} → Place number (Some at) → locked_in locked number ≡ get_or locked at false
unfolding locked_in
locked_at locked p = ap (λ (i : ℕ). get_or locked i false) (sym (found_at p))

module _ {locked : List Bool} {number value at : ℕ} (p : Place number (Some at)) where
  pub settable_locked : get_or locked at false ≡ true → Settable locked number value (not (get_or locked at false))
  unfolding settable
  settable_locked e = record { is = simp (e, locked_at locked p ∙ e) }

  pub settable_free : {r : Bool} → get_or locked at false ≡ false → Takes (setting_at at) value r → Settable locked number value r
  unfolding settable
  settable_free e a = record { is = (allowed_row p a).is ∙ simp (locked_at locked p ∙ e) }

pub settable_unknown : {locked : List Bool} {number value : ℕ} → Place number None → Settable locked number value false
unfolding settable
settable_unknown {locked} {number} {value} p =
    record { is = sym (both_false (not (locked_in locked number)) (allowed number value) (sym (allowed_unknown p).is)) }

pub and_both : (a b : Bool) → a && b ≡ both a b
and_both true b = refl
and_both false b = refl

all_settable_list : (locked : List Bool) (chunks : List (List ℕ)) → list_all (λ bytes. settable locked (pair_of bytes)) chunks ≡ all_settable locked (map pair_of chunks)
unfolding all_settable
all_settable_list locked [] = refl
all_settable_list locked (bytes ∷ rest) =
    and_both (settable locked (pair_of bytes)) (list_all (λ b. settable locked (pair_of b)) rest)
    ∙ ap (both (settable locked (pair_of bytes))) (all_settable_list locked rest)

pub judged : {locked : List Bool} {chunks : List (List ℕ)} {r : Bool} → r ≡ list_all (λ bytes. settable locked (pair_of bytes)) chunks → AllSettable locked chunks r
judged {locked} {chunks} e = record { is = e ∙ all_settable_list locked chunks }

-- ---- `put` and `change`

pub put_at : {values : List ℕ} {number value at : ℕ} → Place number (Some at) → Puts values number value (set values at value)
put_at {values} {value = value} p = record { is = ap (λ (i : ℕ). set values i value) (found_at p) }

pub put_none : {values : List ℕ} {number value : ℕ} → Full values → Place number None → Puts values number value values
put_none {values} {number} {value} f p = record { is = sym (set_out values (place_of number) value (let z = not_placed number (not_found p) in omega (arith, f.is))) }

-- The pairs passed are set where it is asked, so what is left to set are those of the rest.
pub record Putting (asked : Bool) (values : List ℕ) (chunks : List (List ℕ)) (next : List ℕ) (i : ℕ) : Type 0 where
  pub full : Full next
  pub rest : pick asked (set_all (map pair_of chunks) values) values ≡ pick asked (set_all (map pair_of (drop i chunks)) next) next

pub putting_none : {asked : Bool} {values : List ℕ} {chunks : List (List ℕ)} → length values ≡ parameter_count → Putting asked values chunks values 0
putting_none l = record { full = record { is = l }; rest = refl }

one_pair : (chunks : List (List ℕ)) (i : ℕ) → i < length chunks → map pair_of (drop i chunks) ≡ (pair_of (get_or chunks i []) ∷ map pair_of (drop (i + 1) chunks))
one_pair chunks i h = rw (add-one i, drop-cons chunks i [] h) refl

module _ {values next : List ℕ} {chunks : List (List ℕ)} {i : ℕ} where
  putting_more : {next' : List ℕ} → Putting true values chunks next i → i < length chunks → Puts next (get_or (get_or chunks i []) 0 0) (get_or (get_or chunks i []) 1 0) next' →
      Putting true values chunks next' (i + 1)
  unfolding set_all
  putting_more k h p =
      record { full = record { is = rw p.is (simp length-set k.full.is) }; rest = k.rest ∙ rw (one_pair chunks i h, p.is) refl }

  putting_not : Putting false values chunks next i → Putting false values chunks next (i + 1)
  putting_not k = record { full = k.full; rest = k.rest }

putting_end : (asked : Bool) {values next : List ℕ} {chunks : List (List ℕ)} {i : ℕ} → Putting asked values chunks next i → length chunks ≤ i →
    next ≡ pick asked (set_all (map pair_of chunks) values) values
unfolding set_all
putting_end true {chunks = chunks} {i = i} k h = sym (k.rest ∙ rw (drop_of_length-le chunks {i = i} h) refl)
putting_end false k h = sym k.rest

-- Present values always, permanent ones where it is asked; the locks stay.
pub record Changing (forever : Bool) (t : Table) (chunks : List (List ℕ)) (next : Table) (i : ℕ) : Type 0 where
  pub now_set : Putting true t.present chunks next.present i
  pub ever_set : Putting forever t.permanent chunks next.permanent i
  pub locks : next.locked ≡ t.locked

pub changing_none : {forever : Bool} {t : Table} {chunks : List (List ℕ)} → length t.present ≡ parameter_count → length t.permanent ≡ parameter_count → Changing forever t chunks t 0
changing_none l m = record { now_set = putting_none l; ever_set = putting_none m; locks = refl }

module _ {t next : Table} {chunks : List (List ℕ)} {i : ℕ} {present : List ℕ} where
  pub changing_both : {forever : Bool} {permanent : List ℕ} → Changing forever t chunks next i → i < length chunks → Puts next.present (get_or (get_or chunks i []) 0 0) (get_or (get_or chunks i []) 1 0) present →
      forever ≡ true → Puts next.permanent (get_or (get_or chunks i []) 0 0) (get_or (get_or chunks i []) 1 0) permanent →
      Changing forever t chunks (record { locked = next.locked; present = present; permanent = permanent }) (i + 1)
  changing_both k h p e q =
      record {
        now_set = putting_more k.now_set h p;
        ever_set = rw e (putting_more (rw e at k.ever_set) h q);
        locks = k.locks;
      }

  pub changing_now : {forever : Bool} → Changing forever t chunks next i → i < length chunks → Puts next.present (get_or (get_or chunks i []) 0 0) (get_or (get_or chunks i []) 1 0) present →
      forever ≡ false → Changing forever t chunks (record { locked = next.locked; present = present; permanent = next.permanent }) (i + 1)
  changing_now k h p e =
      record {
        now_set = putting_more k.now_set h p;
        ever_set = rw e (putting_not (rw e at k.ever_set));
        locks = k.locks;
      }

pub changed_all : {t next : Table} {chunks : List (List ℕ)} {forever : Bool} {i : ℕ} → Changing forever t chunks next i → length chunks ≤ i → Changes t chunks forever next
unfolding changed
changed_all {forever = forever} k h = record { is = rw (← putting_end true k.now_set h, ← putting_end forever k.ever_set h, ← k.locks) refl }

-- ---- `set`

module _ {t : Table} {bytes : List ℕ} {forever : Bool} where
  pub set_length : (length bytes % 2 ≡ 0 → ⊥) → Sets t bytes forever (Err Data)
  unfolding set_pairs changed_of
  set_length d = record { is = rw (read_odd bytes d) refl }

  module _ {chunks : List (List ℕ)} (e : length bytes % 2 ≡ 0) (f : chunks ≡ first_chunks 2 (length bytes / 2) bytes) where
    pub set_bad : {r : Bool} → AllSettable t.locked chunks r → r ≡ false → Sets t bytes forever (Err Setting)
    unfolding set_pairs changed_of
    set_bad a n = record { is = rw (read_even bytes e, ← f, ← a.is, n) refl }

    pub set_done : {r : Bool} {x : Table} → AllSettable t.locked chunks r → r ≡ true → Changes t chunks forever x → Sets t bytes forever (Ok x)
    unfolding set_pairs changed_of
    set_done a y c = record { is = rw (read_even bytes e, ← f, ← a.is, y, c.is) refl }
