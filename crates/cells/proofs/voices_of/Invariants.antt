-- The loop: the voices are read up to a channel.
use Rattle.laws.specs.Each.{Filled}
use Rattle.common.specs.Limits.{width}
use Rattle.voice.specs.Frames.{blank}
use Rattle.cells.specs.Cells.{channel_place, own_cell_count, voice_of}
use Prim.Native.Nat.{◌+◌, ◌≤◌}
use Rattle.cells.proofs.voices_of.Given as goal

abbrev pub invariant-loop-i : goal.invariant-loop-i
invariant-loop-i l = (l.i ≤ width) × Filled (λ j. voice_of l.cells (channel_place j + own_cell_count)) blank width l.voices l.i
