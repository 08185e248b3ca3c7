-- The ten cases of §17 hold: eight by computation, the pieces by the law of their sizes. Assumes nothing.
use mathlib.Core.Path.{refl}
use native.Mathlib.Omega.{arith}
use lib.ListN.{length}
use borrow.Author.Tests.{lt-ltb}
use Rattle.sender.proofs.Pieces.{pieces_sizes, pieces_longest, short_uncut}
use Rattle.sender.proofs.Theorems.{start_refused}
use Rattle.bench.specs.Cases.{TenCases, reader_tells}
use Rattle.bench.proofs.Opening.{opening}

pub ten_cases : TenCases
unfolding opening reader_tells
ten_cases =
    record {
      hub_ack = refl;
      reader_ack = refl;
      hub_nak = refl;
      reader_nak = refl;
      one_piece_lem = refl;
      one_piece_joined = refl;
      empty_message_lem = refl;
      empty_message_joined = refl;
      trigger_set_lem = refl;
      trigger_asked_lem = refl;
      brim = λ m e. pieces_sizes m 0 250 (omega arith) (omega arith) (omega arith) (short_uncut m (omega arith));
      over_brim = λ m e. pieces_sizes m 1 1 (omega arith) (omega arith) (omega arith) (short_uncut m (omega arith));
      longest = λ m e u. pieces_sizes m 16 96 (omega arith) (omega arith) (omega arith) u;
      longest_number = λ m e. (pieces_longest m e).number;
      longest_least = λ m e. (pieces_longest m e).least;
      longest_most = λ m e. (pieces_longest m e).most;
      too_long_lem = λ s code m e. start_refused s code m (simp (lt-ltb 4096 (length m) (omega arith)));
      too_long_number = refl;
      cut = refl;
    }
