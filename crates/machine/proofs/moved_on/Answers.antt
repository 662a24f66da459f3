-- The remainder is what `kept_at` ensures.
use Rattle.machine.proofs.moved_on.Goals as goal

pub returns : goal.returns
returns c = rw c.kept_at.ensures
