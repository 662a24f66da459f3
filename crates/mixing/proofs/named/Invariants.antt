-- The channels so far have the extents of their samples.
use Rattle.laws.specs.Each.{Filled}
use Rattle.common.specs.Limits.{width}
use Rattle.reader.specs.Samples.{no_extent}
use Rattle.mixing.specs.Sides.{mark_at}
use Rattle.mixing.proofs.named.Given as goal

abbrev pub invariant-loop-i : goal.invariant-loop-i
invariant-loop-i l = Filled (mark_at l.extents l.commands) no_extent width l.marks l.i
