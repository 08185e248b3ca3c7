-- `reader::sound_core` meets its contract: the answer fits its buffer, or is none. Assumes nothing.
use Rattle.reader.proofs.Answering.{core_kept, core_none}
use Rattle.reader.proofs.sound_core.Goals as goal
use Rattle.reader.proofs.sound_core.Goals.{then-reader-le-READER_ANSWER_SIZE, else-reader-le-READER_ANSWER_SIZE}

pub returns : goal.returns
returns c =
    elim c.if-reader-le-READER_ANSWER_SIZE.branch [
      | then-reader-le-READER_ANSWER_SIZE w ↦ rw w.last_answer-is (core_kept w.if-reader-le-READER_ANSWER_SIZE.true)
      | else-reader-le-READER_ANSWER_SIZE w ↦ rw w.last_answer-is (core_none w.if-reader-le-READER_ANSWER_SIZE.false)
    ]
