-- The loop: the channels are read up to a channel.
use Rattle.laws.specs.Each.{Filled}
use Rattle.common.specs.Limits.{width}
use Rattle.effects.specs.Legal.{fresh_channel}
use Rattle.cells.specs.Cells.{channel_place, channel_of}
use Prim.Native.Nat.{◌≤◌}
use Rattle.cells.proofs.channels_of.Given as goal

abbrev pub invariant-loop-i : goal.invariant-loop-i
invariant-loop-i l = (l.i ≤ width) × Filled (λ j. channel_of l.cells (channel_place j)) fresh_channel width l.channels l.i
