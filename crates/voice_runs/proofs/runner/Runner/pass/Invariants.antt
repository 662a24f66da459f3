-- The loop passes run by run; the voice is so many frames on.
use mathlib.Core.Path.{◌≡◌}
use mathlib.Core.List.{[]}
use Prim.Native.Nat.{◌-◌, ◌≤◌}
use Rattle.voice.specs.Modules.{sample_with}
use Rattle.voice.specs.Frames.{steps_of}
use Rattle.voice_runs.proofs.runner.Runner.pass.Given as goal

abbrev pub invariant-loop-passed : goal.invariant-loop-passed
invariant-loop-passed l = (l.passed ≤ l.frames) × (l.self.1.0 ≡ l.fn.self.extent) × (l.self.1.1.0 ≡ l.fn.self.pace) × (l.self.0 ≡ steps_of (sample_with [] l.fn.self.extent) l.passed l.fn.self.voice)

abbrev pub decreases-loop-passed : goal.decreases-loop-passed
decreases-loop-passed l = l.frames - l.passed
