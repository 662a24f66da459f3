-- The loop: the voices' cells are written behind the front, up to a voice.
use Rattle.board_cells.proofs.Laws.{VoicesWritten}
use Rattle.common.specs.Limits.{width}
use Prim.Native.Nat.{◌-◌}
use Rattle.board_cells.proofs.cells_of.Given as goal

abbrev pub invariant-loop-i : goal.invariant-loop-i
invariant-loop-i l = VoicesWritten l.voices l.initial.cells l.cells l.i

abbrev pub decreases-loop-i : goal.decreases-loop-i
decreases-loop-i l = width - l.i
