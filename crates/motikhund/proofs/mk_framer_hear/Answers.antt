-- `motikhund::mk_framer_hear` meets its contract: 13, nothing, or the framer's call on what the bytes hold. Assumes nothing.
use native.Mathlib.Omega.{arith}
use Rattle.motikhund.proofs.Calls.{framer_none, framer_hears}
use Rattle.motikhund.proofs.mk_framer_hear.Goals as goal

pub returns-then-event-gt-LAST_EVENT : goal.returns-then-event-gt-LAST_EVENT
returns-then-event-gt-LAST_EVENT c = framer_none (omega arith) (omega arith) (omega arith)

pub returns : goal.returns
returns c = framer_hears (omega arith) (omega arith) (omega arith) c.framer.ensures c.event.ensures c.hear-framed.ensures c.put_framer.ensures c.found_values.ensures c.found.ensures
