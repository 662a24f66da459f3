-- A number of sides that is not one is as good as two.
use Rattle.floats.proofs.Storing.{gives_two}
use Rattle.floats.proofs.deliver.Goals as goal

pub returns : goal.returns
returns c = gives_two _ _ c.ranges.left c.ranges.right _ c.if-sides-eq1.false _ c.deliver_to-2.ensures
