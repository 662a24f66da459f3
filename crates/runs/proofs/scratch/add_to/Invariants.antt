-- The cells so far are sums, and the others as they were.
use Rattle.std.proofs.Common.{length, pos}
use Rattle.laws.specs.Each.{Parting}
use Rattle.runs.specs.Cells.{number_at, sum_at}
use Rattle.runs.proofs.scratch.add_to.Given as goal

abbrev pub invariant-loop-k : goal.invariant-loop-k
invariant-loop-k l = Parting (sum_at l.initial.to l.from) (number_at l.initial.to) (pos 0) (length l.initial.to) l.to l.k
