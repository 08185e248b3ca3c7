-- `motikhund::mk_answer` meets its contract: 13, nothing, or the packet's call. Assumes nothing.
use native.Mathlib.Omega.{arith}
use Rattle.motikhund.proofs.Calls.{answer_none, packet_answers}
use Rattle.motikhund.proofs.mk_answer.Goals as goal

pub returns-then-reply-gt-LAST_REPLY : goal.returns-then-reply-gt-LAST_REPLY
returns-then-reply-gt-LAST_REPLY c = answer_none (omega arith) (omega arith)

pub returns : goal.returns
returns c = packet_answers (omega arith) (omega arith) c.reply.ensures c.answer-built.ensures c.told.ensures c.size_of.ensures
