-- `saved::exact` meets its contract: the set is written again and compared, then its values are judged. Assumes nothing.
use Rattle.words.proofs.Lists.{compared}
use Rattle.saved.proofs.Reading.{exact_other, exact_same}
use Rattle.saved.proofs.exact.Goals as goal

pub returns-then-eq : goal.returns-then-eq
returns-then-eq c = exact_same c.put-count.ensures (compared c.eq.ensures) c.if-eq.true c.all_allowed.ensures

pub returns-else-eq : goal.returns-else-eq
returns-else-eq c = exact_other c.put-count.ensures (compared c.eq.ensures) c.if-eq.false
