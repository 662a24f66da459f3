-- The frames of the pieces so far are woven, and the voices are those after them.
use Prim.Native.Nat.{◌*◌}
use Rattle.std.specs.Prelude.{min}
use Rattle.voice_runs.specs.Runs.{piece}
use Rattle.mixing.proofs.Piecing.{Piecing}
use Rattle.mixing.proofs.side.Mix.pieces.Given as goal

abbrev pub invariant-loop-k : goal.invariant-loop-k
invariant-loop-k l = Piecing l.self.file.now l.self.extents l.fn.voices l.self.times l.self.channels l.initial.out l.out l.voices (min l.frames (l.k * piece))
