-- The loop: the bytes are read up to one.
use Rattle.laws.specs.Each.{Filled}
use Prim.Native.Nat.{◌-◌, ◌≤◌}
use Rattle.arrival.specs.Arrive.{kept_bytes}
use Rattle.board_cells.specs.Cells.{byte_in}
use Rattle.board_cells.proofs.bytes_of.Given as goal

abbrev pub invariant-loop-i : goal.invariant-loop-i
invariant-loop-i l = (l.i ≤ kept_bytes) × Filled (byte_in l.cells) 0 kept_bytes l.bytes l.i

abbrev pub decreases-loop-i : goal.decreases-loop-i
decreases-loop-i l = kept_bytes - l.i
