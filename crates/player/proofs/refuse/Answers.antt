-- The fields are those of the definition.
use Rattle.player.proofs.refuse.Goals as goal

pub returns : goal.returns
returns c = rw c.refuse.ensures
