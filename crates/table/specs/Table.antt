-- §12: present and permanent values and locks, PARAM_SEND, PARAM_DEFAULTS, power-up, and the answer to PARAM_REQUEST.
use Rattle.std.specs.Prelude.{ℕ, Bool, true, false, not, List, [], ◌∷◌, ◌++◌, eqb, ltb, leb, length, get_or, drop, set, replicate}
use Rattle.words.specs.Lists.{pick, both, either}
use Rattle.packet.specs.Sizes.{data_size}
use Rattle.packet.specs.declared.Refusal.{Refusal}
use Rattle.packet.specs.declared.Refusal.TheVariants.{Data, Setting}
use Rattle.table.specs.Rows.{parameter_count, rows, place_of, supported, allowed, defaults_of}

-- Each parameter has a present and a permanent value, and is locked or not, in the rows' order.
pub record Values : Type 0 where
  pub present : List ℕ
  pub permanent : List ℕ
  pub locked : List Bool

unfoldable pub locked_in : List Bool → ℕ → Bool
locked_in locked number = get_or locked (place_of number) false

-- A parameter and the value asked for it.
pub record Pair : Type 0 where
  pub number : ℕ
  pub value : ℕ

-- How the bytes behind the beep byte are read into pairs; a number with nothing after it is a wrong length.
pub data Reading : Type 0 where
  wrong_length : Reading
  pairs : List Pair → Reading

unfoldable pub behind : Pair → Reading → Reading
behind p wrong_length = wrong_length
behind p (pairs ps) = pairs (p ∷ ps)

unfoldable pub read_pairs : List ℕ → Reading
read_pairs [] = pairs []
read_pairs (n ∷ []) = wrong_length
read_pairs (n ∷ v ∷ rest) = behind (record { number = n; value = v }) (read_pairs rest)

unfoldable pub is_read : Reading → Bool
is_read wrong_length = false
is_read (pairs ps) = true

-- The data of a PARAM_SEND: a beep byte, and pairs behind it.
unfoldable pub send_length_allowed : List ℕ → Bool
send_length_allowed d = both (ltb 0 (length d)) (is_read (read_pairs (drop 1 d)))

-- The data of a PARAM_REQUEST: one number or more, as many as a packet holds.
unfoldable pub request_length_allowed : List ℕ → Bool
request_length_allowed d = both (ltb 0 (length d)) (leb (length d) data_size)

-- A pair that may be set: its parameter is not locked and takes the value.
unfoldable pub settable : List Bool → Pair → Bool
settable locked p = both (not (locked_in locked p.number)) (allowed p.number p.value)

unfoldable pub all_settable : List Bool → List Pair → Bool
all_settable locked [] = true
all_settable locked (p ∷ ps) = both (settable locked p) (all_settable locked ps)

-- Of a number named twice the later value holds.
unfoldable pub set_all : List Pair → List ℕ → List ℕ
set_all [] values = values
set_all (p ∷ ps) values = set_all ps (set values (place_of p.number) p.value)

-- Without bit 3 only present values change; with it both do.
unfoldable pub changed : Bool → List Pair → Values → Values
changed forever ps t =
    record { present = set_all ps t.present; permanent = pick forever (set_all ps t.permanent) t.permanent; locked = t.locked }

-- What becomes of a list of settings: the table, or the refusal that leaves it as it was.
pub data Outcome : Type 0 where
  done : Values → Outcome
  refused : Refusal → Outcome

unfoldable pub set_pairs : Bool → Reading → Values → Outcome
set_pairs forever wrong_length t = refused Data
set_pairs forever (pairs ps) t = pick (all_settable t.locked ps) (done (changed forever ps t)) (refused Setting)

-- The house defaults, with nothing locked.
abbrev pub no_locks : List Bool
no_locks = replicate parameter_count false

unfoldable pub defaults : Values
defaults = record { present = defaults_of rows; permanent = defaults_of rows; locked = no_locks }

-- Values with each default in its place, but where a parameter is locked the value it had.
unfoldable pub restored : List Bool → List ℕ → List ℕ → List ℕ
restored locked values [] = []
restored locked values (d ∷ ds) = pick (get_or locked 0 false) (get_or values 0 0) d ∷ restored (drop 1 locked) (drop 1 values) ds

-- PARAM_DEFAULTS sets both values and passes over what is locked; power-up copies permanent to present. Neither changes a lock.
unfoldable pub set_defaults : Values → Values
set_defaults t =
    record {
      present = restored t.locked t.present (defaults_of rows);
      permanent = restored t.locked t.permanent (defaults_of rows);
      locked = t.locked;
    }

unfoldable pub power_up : Values → Values
power_up t = record { present = t.permanent; permanent = t.permanent; locked = t.locked }

unfoldable pub value_of : Values → ℕ → ℕ
value_of t number = get_or t.present (place_of number) 0

-- ---- the answer to a request

unfoldable pub member : ℕ → List ℕ → Bool
member n [] = false
member n (x ∷ xs) = either (eqb x n) (member n xs)

-- In order of first asking, each once; unsupported numbers are skipped.
unfoldable pub asked_for : List ℕ → List ℕ → List ℕ
asked_for sofar [] = sofar
asked_for sofar (n ∷ ns) = asked_for (pick (both (supported n) (not (member n sofar))) (sofar ++ (n ∷ [])) sofar) ns

unfoldable pub numbers_of : List (List ℕ) → List ℕ
numbers_of [] = []
numbers_of (row ∷ rest) = get_or row 0 0 ∷ numbers_of rest

-- FEh anywhere in the list means all of them in rising order.
unfoldable pub answered_numbers : List ℕ → List ℕ
answered_numbers asked = pick (member 0xFE asked) (numbers_of rows) (asked_for [] asked)

unfoldable pub pair_bytes : Values → List ℕ → List ℕ
pair_bytes t [] = []
pair_bytes t (n ∷ ns) = n ∷ value_of t n ∷ pair_bytes t ns

-- The data of the PARAM_SEND that answers: beep byte FFh, then the pairs.
unfoldable pub answer_data : Values → List ℕ → List ℕ
answer_data t asked = 0xFF ∷ pair_bytes t (answered_numbers asked)
