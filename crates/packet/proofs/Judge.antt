-- The status of a piece, a packet that the check finds, and a length that it refuses. Assumes nothing.
use Prim.Native.Nat.{ℕ, ◌+◌, ◌-◌, ◌*◌, ◌/◌, ◌%◌, ◌≤◌, ◌<◌}
use mathlib.Core.Path.{◌≡◌, sym}
use mathlib.Core.Bool.{true}
use mathlib.Core.List.{List}
use lib.Dec.{eqb}
use lib.ListN.{length, get_or, take}
use lib.Seq.{get_or-take}
use native.Mathlib.Omega.{arith}
use Rattle.packet.proofs.Sums.{first_in_sum}
use borrow.Author.Tests.{eq-eqb, ne_eqb, le-ltb, lt-ltb}
use Rattle.words.proofs.Lists.{either_true}
use Rattle.packet.specs.Opcodes.{decode_data}
use Rattle.packet.specs.Packet.{status_allowed, sum_of, check_of, checksum_of, checksum_in, body_in, head_in}
use Rattle.packet.specs.Promises.{Complement, Check}
use Rattle.packet.specs.declared.Refusal.TheVariants.{Length}
use Rattle.std.specs.Prelude.{Ok, Err}

-- The more bit and the resend mark are all that a piece of a message may have.
pub status_piece : (t : ℕ) → t < 4 → status_allowed decode_data t ≡ true
unfolding status_allowed
status_piece t h = simp (eq-eqb (t / 4 % 2) 0 (omega arith), eq-eqb (t / 16) 0 (omega arith), either_true (eqb (t / 2 % 2) 0))

-- The checksum that stands behind a body is the one that is due where its two bytes say so: the sum of a body is never 0.
pub check_right : {s : List ℕ} {n worked : ℕ} → n ≡ get_or s 0 0 → 4 ≤ n → n + 2 ≤ length s → Complement (take n s) worked → get_or s n 0 * 256 + get_or s (n + 1) 0 ≡ worked →
    Check s (Ok (record { length = n; opcode = get_or s 1 0; source = get_or s 2 0; status = get_or s 3 0 }))
unfolding check_of checksum_of checksum_in body_in head_in
check_right {s} {n} {worked} first h l k e =
    let sum = first_in_sum (take n s) in
    let front = get_or-take n s 0 0 (omega arith) in
    let low = first in
    let due : get_or s n 0 * 256 + get_or s (n + 1) 0 ≡ 65536 - sum_of (take n s) = omega (arith, k.is) in
    record {
      is =
          simp (
            ne_eqb (length s) 0 (λ z. omega arith),
            sym first,
            le-ltb n 4 h,
            le-ltb (length s) (n + 2) l,
            eq-eqb (get_or s n 0 * 256 + get_or s (n + 1) 0) (65536 - sum_of (take n s)) due,
          );
    }

-- A length below 4 is 1.
pub check_short : {s : List ℕ} → (length s ≡ 0 → ⊥) → get_or s 0 0 < 4 → Check s (Err Length)
unfolding check_of
check_short {s} h l = record { is = simp (ne_eqb (length s) 0 h, lt-ltb (get_or s 0 0) 4 l) }
