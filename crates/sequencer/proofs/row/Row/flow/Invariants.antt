-- The loop: what the cells of the channels passed do to the song.
use Rattle.std.proofs.Common.{◌≡◌}
use Rattle.reader.specs.File.{lent}
use Rattle.sequencer.specs.Row.{flow_through}
use Rattle.sequencer.proofs.row.Row.flow.Given as goal

abbrev pub invariant-loop-i : goal.invariant-loop-i
invariant-loop-i l = l.flow ≡ flow_through (lent l.self.layout l.self.file.now) l.self.at l.initial.flow l.i
