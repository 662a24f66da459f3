-- The channels so far are told; the others stay.
use Rattle.laws.specs.Each.{part_end}
use Rattle.mixing.proofs.Telling.{told_more}
use Rattle.mixing.proofs.tell.Goals as goal

pub loop-i-preserved : goal.loop-i-preserved
loop-i-preserved c = told_more _ _ _ _ _ _ _ c.loop-i.invariant c.loop-i-test.true c.requires c.told.ensures

pub returns : goal.returns
returns c = part_end _ _ _ _ _ _ _ c.loop-i.invariant c.loop-i-test.false c.loop-i.auto.i-end
