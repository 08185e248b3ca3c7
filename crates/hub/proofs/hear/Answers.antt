-- `hub::hear` meets its contract: 13 twice, then the step, its answer, and what a message gap clears. Assumes nothing.
use Rattle.hub.proofs.Hearing.{hear_answer, hear_message, hear_taken}
use borrow.Author.Rules.{rules}
use Rattle.hub.proofs.hear.Goals as goal

pub returns-in_default : goal.returns-in_default
returns-in_default c = hear_answer c.in_default.ensures.cases c.no_room.ensures

pub returns-in_default-first_chunk_mut : goal.returns-in_default-first_chunk_mut
returns-in_default-first_chunk_mut c =
    let front = c.in-Some.ensures.cases in
    hear_message front.enough front.same c.in_default-first_chunk_mut.ensures.cases c.no_room-in_default-first_chunk_mut.ensures

pub returns : goal.returns
returns c =
    let front = c.in-Some.ensures.cases in
    let room = c.in-Some-first_chunk_mut.ensures.cases in
    hear_taken front.enough front.same (search rules) room.enough room.same (search rules) c.step-told.ensures c.reply-answer.ensures c.cleared.ensures
