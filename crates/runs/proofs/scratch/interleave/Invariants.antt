-- The frames so far are woven, and every other cell is as it was.
use Rattle.runs.specs.Cells.{number_at, Woven}
use Rattle.runs.proofs.scratch.interleave.Given as goal

abbrev pub invariant-loop-k : goal.invariant-loop-k
invariant-loop-k l = Woven (number_at l.left) (number_at l.right) 0 l.k l.initial.out l.out
