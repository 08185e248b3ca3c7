-- The theorems over the commands: what a call tells is what was done, a command is no answer, the beep codes are those of the table, values
-- stay allowed and what is locked is kept. Assumes nothing.
use Prim.Native.Nat.{ℕ, zero, suc, ◌+◌, ◌<◌, ◌≤◌}
use native.Mathlib.Omega.{arith}
use mathlib.Core.Path.{◌≡◌, refl}
use mathlib.Core.Bool.{Bool, true, false}
use mathlib.Core.List.{List, [], ◌∷◌}
use lib.Dec.{eqb, ltb}
use lib.ListN.{length, get_or}
use borrow.Author.Tests.{eqb-true, ltb-true}
use Rattle.std.proofs.Common.{Some, Err}
use Rattle.words.specs.Lists.{both, either}
use Rattle.words.proofs.Lists.{never, both_left, both_right}
use Rattle.packet.specs.Packet.{is_answer}
use Rattle.packet.specs.declared.Refusal.{Refusal}
use Rattle.table.proofs.Theorems.{AllAllowed, accepted_allowed, set_defaults_allowed, KeepsLocked, keeps_same, accepted_keeps, set_defaults_keeps}
use Rattle.commands.specs.Beeps.{beep_rows, beep_limit, row_of}
use Rattle.commands.specs.Commands.{DeviceState, named_by, Acted, denied, acted, judged}
use Rattle.commands.specs.Promises.{commanded_of}
use Rattle.commands.specs.declared.Command.{Command}
use Rattle.commands.proofs.Outcomes.{Does, keeps, resets, sets, judged_does}

-- ---- what is told

-- What is told as denied was denied.
pub told_denied : (act : Acted) {x : Refusal} → commanded_of act ≡ Err x → act ≡ denied x
unfolding commanded_of
told_denied (denied y) e = cc
told_denied (acted next rows) e = never (cc)

-- ---- opcodes

-- A command's opcode is no answer's.
unknown_answer : (o : ℕ) {k : Command} (a n : Bool) → eqb o 0xD0 ≡ a → eqb o 0xD1 ≡ n → named_by o ≡ Some k → either a n ≡ false
unfolding named_by
unknown_answer o true n e f k = let z = rw (eqb-true o 0xD0 e) at k in never (cc)
unknown_answer o false true e f k = let z = rw (eqb-true o 0xD1 f) at k in never (cc)
unknown_answer o false false e f k = refl

pub no_answer : (o : ℕ) {k : Command} → named_by o ≡ Some k → is_answer o ≡ false
unfolding is_answer
no_answer o k = unknown_answer o (eqb o 0xD0) (eqb o 0xD1) refl refl k

-- ---- beep codes

-- Every row is an allowed code's, and every allowed code has a row.
pub rows_are_codes : length beep_rows ≡ beep_limit + 1
unfolding beep_rows
rows_are_codes = refl

sounding : List (List ℕ) → Bool
sounding [] = true
sounding (row ∷ rows) = both (ltb 0 (get_or row 2 0)) (sounding rows)

sounding_at : (rows : List (List ℕ)) (i : ℕ) → sounding rows ≡ true → i < length rows → 0 < get_or (get_or rows i []) 2 0
unfolding sounding
sounding_at [] i e h = omega (arith, h)
sounding_at (row ∷ rows) zero e h = ltb-true 0 (get_or row 2 0) (both_left (ltb 0 (get_or row 2 0)) (sounding rows) e)
sounding_at (row ∷ rows) (suc i) e h = sounding_at rows i (both_right (ltb 0 (get_or row 2 0)) (sounding rows) e) (omega (arith, h))

-- An allowed code beeps at least once: so 0 beeps can say that none is reported.
pub code_sounds : (code : ℕ) → code ≤ beep_limit → 0 < get_or (row_of code) 2 0
unfolding row_of beep_rows sounding
code_sounds code h = sounding_at beep_rows code refl (omega (arith, rows_are_codes, h))

-- ---- values

pub does_allowed : {d next : DeviceState} {rows : List (List ℕ)} → Does d (acted next rows) → AllAllowed d.values → AllAllowed next.values
does_allowed (keeps e) k = rw e k
does_allowed {d} (resets e) k = rw e (set_defaults_allowed d.values k)
does_allowed {d} {next} (sets forever reading e) k = accepted_allowed forever reading d.values next.values k e

-- Whatever is commanded, every value stays allowed.
pub command_allowed : (d : DeviceState) (k : Command) (status : ℕ) (bytes : List ℕ) {next : DeviceState} {rows : List (List ℕ)} → judged d k status bytes ≡ acted next rows →
    AllAllowed d.values → AllAllowed next.values
command_allowed d k status bytes {next} {rows} e a = let does : Does d (acted next rows) = rw e at (judged_does d k status bytes) in does_allowed does a

pub does_keeps : {d next : DeviceState} {rows : List (List ℕ)} → Does d (acted next rows) → KeepsLocked d.values next.values
does_keeps {d} (keeps e) = rw e (keeps_same d.values)
does_keeps {d} (resets e) = rw e (set_defaults_keeps d.values)
does_keeps {d} {next} (sets forever reading e) = accepted_keeps forever reading d.values next.values e

-- Whatever is commanded, what is locked is kept.
pub command_keeps : (d : DeviceState) (k : Command) (status : ℕ) (bytes : List ℕ) {next : DeviceState} {rows : List (List ℕ)} → judged d k status bytes ≡ acted next rows →
    KeepsLocked d.values next.values
command_keeps d k status bytes {next} {rows} e = let does : Does d (acted next rows) = rw e at (judged_does d k status bytes) in does_keeps does
