-- `hub::join` meets its contract: bar, repeat, then the joining itself. Assumes nothing.
use Rattle.hub.proofs.Joining.{joins_barred, joins_repeated, joins_added}
use Rattle.hub.proofs.join.Goals as goal

pub returns-then-held : goal.returns-then-held
returns-then-held c = joins_barred c.args.packets.last.now c.args.packets.body.now c.args.held.sound c.if-held.true c.bar.ensures

pub returns-then-resent_equal : goal.returns-then-resent_equal
returns-then-resent_equal c = joins_repeated c.args.held.sound c.if-held.false c.resent_equal.ensures c.told-gather c.if-resent_equal.true c.unchanged.ensures

pub returns : goal.returns
returns c = joins_added c.args.held.sound c.if-held.false c.resent_equal.ensures c.if-resent_equal.false c.add.ensures
