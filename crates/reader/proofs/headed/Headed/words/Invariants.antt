-- The loop: the sum of the lengths passed, each below 65,536.
use Rattle.std.proofs.Common.{◌≡◌, ◌*◌, ◌≤◌}
use Rattle.laws.specs.Ranges.{total}
use Rattle.reader.specs.File.{sample_words}
use Rattle.reader.proofs.headed.Headed.words.Given as goal

abbrev pub invariant-loop-i : goal.invariant-loop-i
invariant-loop-i l = (l.sum ≡ total (sample_words l.self.file.now) l.i) × (l.sum ≤ 65535 * l.i)
