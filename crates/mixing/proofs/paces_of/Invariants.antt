-- The channels so far have their paces.
use mathlib.Core.Path.{◌≡◌}
use lib.ListN.{length}
use Rattle.common.specs.Limits.{width}
use Rattle.mixing.specs.Sides.{Pacing}
use Rattle.mixing.proofs.paces_of.Given as goal

abbrev pub invariant-loop-i : goal.invariant-loop-i
invariant-loop-i l = record { long : length l.paces ≡ width; paced : Pacing l.voices l.paces l.i }
