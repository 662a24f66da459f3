-- The loop: channels and commands are filled with what the channels passed give.
use Rattle.reader.specs.File.{lent}
use Rattle.sequencer.proofs.Laws.{Voicing}
use Rattle.sequencer.proofs.all_voiced.Given as goal

abbrev pub invariant-loop-i : goal.invariant-loop-i
invariant-loop-i l = Voicing (lent l.row.layout l.row.file.now) l.song l.sounding l.all l.i
