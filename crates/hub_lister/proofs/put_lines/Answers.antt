use native.Mathlib.Omega.{arith}
use Rattle.hub_lister.proofs.Lines.{room_behind, both_lines}
use Rattle.hub_lister.proofs.put_lines.Goals as goal

pub returns : goal.returns
returns c = let k = c.message_line.ensures in
    both_lines (omega arith) (room_behind (omega arith) (omega arith) k) k c.put_answer.ensures
