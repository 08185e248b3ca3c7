-- `hub::judge` meets its contract: one law for each answer, in the order of the tests. Assumes nothing.
use Rattle.hub.proofs.Joining.{judges_answer, judges_source, judges_status, judges_opcode, judges_decode}
use Rattle.hub.proofs.judge.Goals as goal

pub returns-then-is_answer : goal.returns-then-is_answer
returns-then-is_answer c = judges_answer c.args.packets.last.now c.args.packets.body.now c.args.held.sound c.told-gather c.args.packets.headed c.is_answer.ensures c.if-is_answer.true c.unchanged.ensures

pub returns-then-source-ne-READER : goal.returns-then-source-ne-READER
returns-then-source-ne-READER c = judges_source c.args.packets.last.now c.args.packets.body.now c.args.held.sound c.told-gather c.args.packets.headed c.is_answer.ensures c.if-is_answer.false c.if-source-ne-READER.true c.unchanged-then-source-ne-READER.ensures

pub returns-then-not-status_allowed : goal.returns-then-not-status_allowed
returns-then-not-status_allowed c = judges_status c.args.packets.last.now c.args.packets.body.now c.args.held.sound c.told-gather c.args.packets.headed c.is_answer.ensures c.if-is_answer.false c.if-source-ne-READER.false c.status_allowed.ensures c.if-not-status_allowed.true c.unchanged-then-not-status_allowed.ensures

pub returns-then-opcode : goal.returns-then-opcode
returns-then-opcode c = judges_opcode c.args.packets.last.now c.args.packets.body.now c.args.held.sound c.told-gather c.args.packets.headed c.is_answer.ensures c.if-is_answer.false c.if-source-ne-READER.false c.status_allowed.ensures c.if-not-status_allowed.false c.if-opcode.true c.unchanged-then-opcode.ensures

pub returns : goal.returns
returns c = judges_decode c.args.packets.last.now c.args.packets.body.now c.args.held.sound c.told-gather c.args.packets.headed c.is_answer.ensures c.if-is_answer.false c.if-source-ne-READER.false c.status_allowed.ensures c.if-not-status_allowed.false c.if-opcode.false c.decode.ensures
