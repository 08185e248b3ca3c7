-- `saved::comes_next` meets its contract. Assumes nothing.
use Rattle.saved.proofs.Reading.{next_found, next_none}
use Rattle.saved.proofs.comes_next.Goals as goal

pub returns-then-at-bytes : goal.returns-then-at-bytes
returns-then-at-bytes c = next_found c.if-at-bytes.true

pub returns-else-at-bytes : goal.returns-else-at-bytes
returns-else-at-bytes c = next_none c.if-at-bytes.false
