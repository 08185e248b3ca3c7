-- `listing::write_line` meets its contract: the letter, the bytes, the line feed, one behind the other. Assumes nothing.
use native.Mathlib.Omega.{arith}
use Rattle.listing.proofs.Lines.{length_hex_bytes, line_written}
use Rattle.listing.proofs.Rooms.{writes_length}
use Rattle.listing.proofs.write_line.Goals as goal

pub spell-requires : goal.spell-requires
spell-requires c = let w = c.write.ensures.writes in omega (arith, w.is, writes_length w)

pub write-requires-2 : goal.write-requires-2
write-requires-2 c = let w = c.write.ensures.writes in
    let v = c.spell.ensures.writes in
    omega (arith, w.is, writes_length w, v.is, writes_length v, length_hex_bytes c.args.bytes.now)

pub returns : goal.returns
returns c = line_written _ c.write.ensures c.spell.ensures c.write-2.ensures
