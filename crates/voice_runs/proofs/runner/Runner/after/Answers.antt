-- A silent voice stays. Any other is placed at its last frame, which is before the end, and takes its step.
use Rattle.std.proofs.Common.{rules}
use Rattle.laws.specs.Tests.{called}
use Rattle.voice.specs.Kept.{silent_steps}
use Rattle.voice_runs.proofs.Lines.{last_product, last_place, last_past, last_fits, last_legal, last_steps}
use Rattle.voice_runs.proofs.runner.Runner.after.Goals as goal

pub returns-then-silent : goal.returns-then-silent
returns-then-silent c = search (silent_steps, called, rules)

pub overflow_mul-past : goal.overflow_mul-past
overflow_mul-past c = search (last_product, called, rules)

pub overflow_add-past : goal.overflow_add-past
overflow_add-past c = search (last_place, called, rules)

pub overflow_cast-past-2 : goal.overflow_cast-past-2
overflow_cast-past-2 c = search (last_past, called, rules)

pub overflow_add-index : goal.overflow_add-index
overflow_add-index c = search (last_fits, called, rules)

pub step-requires-clause-legal : goal.step-requires-clause-legal
step-requires-clause-legal c = search (last_legal, called, rules)

pub returns : goal.returns
returns c = search (last_steps, called, rules)
