-- `reader::known` meets its contract: 7, then a resent equal, then the command itself. Assumes nothing.
use Rattle.reader.proofs.Answering.{kept_fits}
use Rattle.reader.proofs.Judging.{known_data, known_again, known_performs}
use Rattle.reader.proofs.known.Goals as goal

pub returns-then-not-length_allowed : goal.returns-then-not-length_allowed
returns-then-not-length_allowed c = known_data (kept_fits c.args.answers.now c.requires c.told-answers) c.data_part-data.ensures c.length_allowed.ensures c.if-not-length_allowed.true c.refuse.ensures

pub returns-then-resent_equal : goal.returns-then-resent_equal
returns-then-resent_equal c = known_again (kept_fits c.args.answers.now c.requires c.told-answers) c.data_part-data.ensures c.length_allowed.ensures c.if-not-length_allowed.false c.resent_equal.ensures c.if-resent_equal.true c.again.ensures

pub returns : goal.returns
returns c = known_performs (kept_fits c.args.answers.now c.requires c.told-answers) c.data_part-data.ensures c.length_allowed.ensures c.if-not-length_allowed.false c.resent_equal.ensures c.if-resent_equal.false c.perform.ensures
