-- A quiet run gives zeros; any other is a line at its weight.
use Rattle.std.proofs.Common.{rules, arith}
use Rattle.laws.specs.Lent.{tail_is}
use Rattle.laws.specs.Tests.{called}
use Rattle.voice_runs.proofs.Lines.{pace_inverse}
use Rattle.voice_runs.proofs.Spreading.{write_quiet, loud_from, write_loud}
use Rattle.voice_runs.proofs.runner.Runner.write.Goals as goal

pub returns-then-quiet : goal.returns-then-quiet
returns-then-quiet c = write_quiet _ _ _ _ _ _ _ (search (called, rules)) (omega arith) (search rules)

pub fill_line-requires-clause-pace : goal.fill_line-requires-clause-pace
fill_line-requires-clause-pace c = search (pace_inverse, loud_from, called, rules)

pub returns : goal.returns
returns c =
    write_loud c.args.self.voice c.args.self.pace c.args.weight c.args.count _ c.args.cells.now (search (called, rules)) c.from-from.result _ (search rules)
    (rw (← tail_is c.args.self.voice.index c.args.bytes.now) c.fill_line.ensures)
