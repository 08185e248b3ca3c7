-- `sender::sound` meets its contract. Assumes nothing.
use Rattle.sender.proofs.Placing.{sound_same, sound_idle}
use Rattle.sender.proofs.sound.Goals as goal

pub returns-then-made : goal.returns-then-made
returns-then-made c = sound_same c.made.ensures c.if-made.true

pub returns-else-made : goal.returns-else-made
returns-else-made c = sound_idle c.made.ensures c.if-made.false c.idle.ensures
