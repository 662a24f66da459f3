-- The channels before the next are mixed.
use Rattle.std.specs.Prelude.{◌≡◌, ◌+◌, ◌-◌, ◌<◌, length, unwrap_or, IfSome}
use Rattle.voice_runs.specs.Runs.{piece, spare}
use Rattle.mixing.specs.Sides.{number_of, Siding}
use Rattle.mixing.proofs.side.Mix.side.Given as goal

abbrev pub invariant-loop-next : goal.invariant-loop-next
invariant-loop-next l = record {
  long : length l.cells ≡ piece + spare;
  found : IfSome l.next (λ i. i < l.self.channels);
  siding : Siding l.self.file.now l.self.extents l.fn.voices l.self.times (number_of l.on) l.self.channels l.frames l.voices l.cells (unwrap_or l.next l.self.channels);
}

abbrev pub decreases-loop-next : goal.decreases-loop-next
decreases-loop-next l = l.self.channels - unwrap_or l.next l.self.channels
