-- The loop: the table is filled up to a sample number, and the next sample begins where the last ended.
use Rattle.reader.specs.Modules.{as_headed}
use Rattle.reader.proofs.Extents.{Listed}
use Rattle.reader.proofs.headed.Headed.extents.Given as goal

abbrev pub invariant-loop-k : goal.invariant-loop-k
invariant-loop-k l = Listed (as_headed l.self) l.table l.from l.k
