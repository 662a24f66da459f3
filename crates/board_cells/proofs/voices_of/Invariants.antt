-- The loop: the voices are read up to one.
use Rattle.laws.specs.Each.{Filled}
use Prim.Native.Nat.{◌-◌, ◌≤◌}
use Rattle.common.specs.Limits.{width}
use Rattle.voice.specs.Frames.{blank}
use Rattle.cells.specs.Cells.{voice_of}
use Rattle.board_cells.specs.Cells.{voice_place}
use Rattle.board_cells.proofs.voices_of.Given as goal

abbrev pub invariant-loop-i : goal.invariant-loop-i
invariant-loop-i l = (l.i ≤ width) × Filled (λ j. voice_of l.cells (voice_place j)) blank width l.voices l.i

abbrev pub decreases-loop-i : goal.decreases-loop-i
decreases-loop-i l = width - l.i
