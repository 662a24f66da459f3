-- The loop: the largest of the entries passed.
use Rattle.std.proofs.Common.{◌≡◌}
use Rattle.laws.specs.Ranges.{largest}
use Rattle.reader.specs.File.{entry_of}
use Rattle.reader.specs.Modules.{as_headed}
use Rattle.reader.proofs.headed.Headed.largest_entry.Given as goal

abbrev pub invariant-loop-i : goal.invariant-loop-i
invariant-loop-i l = l.top ≡ largest (entry_of (as_headed l.self)) l.i
