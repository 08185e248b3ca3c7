-- `listing::put_line` meets its contract: the line where it fits, else nothing. Assumes nothing.
use native.Mathlib.Omega.{arith}
use Rattle.listing.proofs.Lines.{no_line, whole_line}
use Rattle.listing.proofs.put_line.Goals as goal
use Rattle.listing.proofs.put_line.Goals.{then-left-lt2-via-then-left-lt2, then-left-lt2-via-else-left-lt2+then-bytes-left}

pub returns-then-left-lt2 : goal.returns-then-left-lt2
returns-then-left-lt2 c =
    no_line _ _
    (elim c.then-left-lt2.branch [
      | then-left-lt2-via-then-left-lt2 w ↦ omega arith
      | then-left-lt2-via-else-left-lt2+then-bytes-left w ↦ omega arith
    ])

pub returns : goal.returns
returns c = whole_line c.write_line.ensures
