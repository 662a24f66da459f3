-- The fields are those of the definition.
use Rattle.player.proofs.playing.after_ticks.Goals as goal

pub returns : goal.returns
returns c = rw c.accept.ensures
