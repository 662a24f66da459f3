-- A silent voice is a line that weighs nothing. Of another, each frame of the run is a step that does not reach the end.
use Rattle.std.proofs.Common.{rules}
use Rattle.laws.specs.Tests.{called}
use Rattle.voice.specs.Kept.{loud_index}
use Rattle.voice_runs.proofs.Lines.{run_silent, run_sounds, pace_inverse, ahead_above, ahead_most}
use Rattle.voice_runs.proofs.runner.Runner.count.Goals as goal

pub returns-then-silent-clause-run : goal.returns-then-silent-clause-run
returns-then-silent-clause-run c = search (run_silent, called, rules)

pub ahead-bytes-requires : goal.ahead-bytes-requires
ahead-bytes-requires c = search (loud_index, called, rules)

pub span-requires-clause-inside : goal.span-requires-clause-inside
span-requires-clause-inside c = (search (ahead_above, called, rules), search (ahead_most, called, rules), search rules)

pub span-requires-clause-pace : goal.span-requires-clause-pace
span-requires-clause-pace c = search (pace_inverse, called, rules)

pub returns-clause-run : goal.returns-clause-run
returns-clause-run c = search (run_sounds, called, rules)
