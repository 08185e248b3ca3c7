-- `hub_lister::stream::end` is safe: the line lies within the room. Assumes nothing.
use Rattle.listing.proofs.Sessions.{finish_inside}
use native.Mathlib.Omega.{arith}
use Rattle.hub_lister.proofs.stream.end.Goals as goal

pub write-requires : goal.write-requires
write-requires g c = omega (arith, finish_inside c.finish-count.ensures.finishes)
