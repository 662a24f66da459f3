-- The loop: what is kept tells a bad cell where one of the pairs passed has one.
use Rattle.std.proofs.Common.{◌≡◌}
use Rattle.laws.specs.Ranges.{some}
use Rattle.reader.specs.Halves.{seen_bad}
use Rattle.reader.specs.Modules.{as_headed}
use Rattle.reader.proofs.Scan.{bad_two}
use Rattle.reader.proofs.headed.Headed.some_bad.Given as goal

abbrev pub invariant-loop-i : goal.invariant-loop-i
invariant-loop-i l = seen_bad l.self.layout.samples l.bytes l.marks ≡ some (bad_two (as_headed l.self) l.half) l.i
