-- `table::answer` meets its contract: 13, then the beep byte with the pairs behind it. Assumes nothing.
use Rattle.table.proofs.Answering.{answer_room, answer_all, answer_asked}
use Rattle.table.proofs.answer.Goals as goal

pub returns-then-room-lt-PAIRS_SIZE : goal.returns-then-room-lt-PAIRS_SIZE
returns-then-room-lt-PAIRS_SIZE c = answer_room c.if-room-lt-PAIRS_SIZE.true

pub returns-then-contains : goal.returns-then-contains
returns-then-contains c = answer_all c.if-room-lt-PAIRS_SIZE.false c.contains.ensures.value c.if-contains.true c.all_pairs.ensures c.copy.ensures

pub returns : goal.returns
returns c = answer_asked c.if-room-lt-PAIRS_SIZE.false c.contains.ensures.value c.if-contains.false c.asked_pairs-count.ensures
