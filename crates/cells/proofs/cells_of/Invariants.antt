-- The loop: the channels' cells are written behind the song's, up to a channel.
use Rattle.cells.proofs.Laws.{ChannelsWritten}
use Rattle.cells.proofs.cells_of.Given as goal

abbrev pub invariant-loop-i : goal.invariant-loop-i
invariant-loop-i l = ChannelsWritten l.channels l.voices l.initial.cells l.cells l.i
