-- The loop goes byte by byte: when a byte's number is written, the next byte begins no later than the cells that it was written into end.
use Prim.Native.Nat.{◌-◌}
use Rattle.voice_runs.proofs.Bytewise.{Bytewise}
use Rattle.voice_runs.proofs.bytes.fill_line.Given as goal

abbrev pub invariant-loop-cell : goal.invariant-loop-cell
invariant-loop-cell l = Bytewise l.bytes l.weight l.from l.fn.pace.growth l.fn.pace.inverse l.initial.cells l.cells l.due l.cell l.m

abbrev pub decreases-loop-cell : goal.decreases-loop-cell
decreases-loop-cell l = l.count - l.cell
