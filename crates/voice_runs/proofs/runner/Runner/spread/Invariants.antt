-- The loop writes run by run; what is written are the voice's numbers so far, and the voice is so many frames on.
use mathlib.Core.Path.{◌≡◌}
use Prim.Native.Nat.{◌-◌, ◌≤◌}
use Rattle.voice_runs.proofs.Spreading.{Spreading}
use Rattle.voice_runs.proofs.runner.Runner.spread.Given as goal

abbrev pub invariant-loop-written : goal.invariant-loop-written
invariant-loop-written l = (l.written ≤ l.frames) × (l.self.1.0 ≡ l.fn.self.extent) × (l.self.1.1.0 ≡ l.fn.self.pace) × Spreading l.bytes l.fn.self.extent l.times l.initial.cells l.fn.self.voice l.cells l.self.0 l.written

abbrev pub decreases-loop-written : goal.decreases-loop-written
decreases-loop-written l = l.frames - l.written
