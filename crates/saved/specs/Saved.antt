-- §21: the form of a saved set, permanent values and locks, over an edition. A form is read as the set that stands in it, if writing
-- that set gives the same bytes and all its values are allowed: so each set has one form, and nothing else is one.
use Rattle.std.specs.Prelude.{ℕ, suc, ◌+◌, ◌*◌, Bool, true, false, List, [], ◌∷◌, ◌++◌, length, get_or, take, drop}
use Rattle.words.specs.Lists.{pick, both, same_bytes}
use Rattle.packet.specs.declared.Refusal.TheVariants.{Form}
use Rattle.table.specs.Rows.{parameter_count, rows, row_allows}
use Rattle.table.specs.Table.{Values, Outcome, done, refused}

-- What tells editions apart: the first byte, how a parameter's number is written and in how many bytes, and the rows.
pub record Edition : Type 0 where
  pub byte : ℕ
  pub width : ℕ
  pub written : ℕ → List ℕ
  pub rows : List (List ℕ)

abbrev pub edition1 : Edition
edition1 = record { byte = 1; width = 1; written = λ n. n ∷ []; rows = rows }

-- ---- writing

-- Number and value of each row.
unfoldable pub pairs_of : Edition → List (List ℕ) → List ℕ → List ℕ
pairs_of e [] values = []
pairs_of e (row ∷ rest) values = e.written (get_or row 0 0) ++ (get_or values 0 0 ∷ pairs_of e rest (drop 1 values))

-- The numbers of the locked rows, and how many they are.
unfoldable pub locks_of : Edition → List (List ℕ) → List Bool → List ℕ
locks_of e [] locked = []
locks_of e (row ∷ rest) locked = pick (get_or locked 0 false) (e.written (get_or row 0 0)) [] ++ locks_of e rest (drop 1 locked)

unfoldable pub lock_count : List (List ℕ) → List Bool → ℕ
lock_count [] locked = 0
lock_count (row ∷ rest) locked = pick (get_or locked 0 false) 1 0 + lock_count rest (drop 1 locked)

unfoldable pub form_of : Edition → Values → List ℕ
form_of e t = e.byte ∷ length e.rows ∷ (pairs_of e e.rows t.permanent ++ (lock_count e.rows t.locked ∷ locks_of e e.rows t.locked))

-- The longest form of edition 1, every row locked: edition, two counts, and three bytes for each row.
abbrev pub set_size : ℕ
set_size = 3 + 3 * parameter_count

-- ---- reading

-- The values stand behind their numbers.
unfoldable pub values_in : Edition → List (List ℕ) → List ℕ → List ℕ
values_in e [] bytes = []
values_in e (row ∷ rest) bytes = get_or bytes e.width 0 ∷ values_in e rest (drop (suc e.width) bytes)

-- A row is locked where its number comes next.
unfoldable pub locks_in : Edition → List (List ℕ) → List ℕ → List Bool
locks_in e [] bytes = []
locks_in e (row ∷ rest) bytes =
    pick (same_bytes (take e.width bytes) (e.written (get_or row 0 0))) (true ∷ locks_in e rest (drop e.width bytes)) (false ∷ locks_in e rest bytes)

-- Where the numbers of the locked rows start: behind edition, count, pairs and count.
abbrev pub locks_at : Edition → ℕ
locks_at e = 3 + length e.rows * suc e.width

-- The set that stands in some bytes, whatever they are. Its present values are the permanent ones.
unfoldable pub standing : Edition → List ℕ → Values
standing e bytes =
    record {
      present = values_in e e.rows (drop 2 bytes);
      permanent = values_in e e.rows (drop 2 bytes);
      locked = locks_in e e.rows (drop (locks_at e) bytes);
    }

unfoldable pub rows_allow : List (List ℕ) → List ℕ → Bool
rows_allow [] values = true
rows_allow (row ∷ rest) values = both (row_allows row (get_or values 0 0)) (rows_allow rest (drop 1 values))

unfoldable pub is_form : Edition → List ℕ → Bool
is_form e bytes = both (same_bytes bytes (form_of e (standing e bytes))) (rows_allow e.rows (standing e bytes).permanent)

unfoldable pub read_form : Edition → List ℕ → Outcome
read_form e bytes = pick (is_form e bytes) (done (standing e bytes)) (refused Form)
