-- The commands that were read, before what is left to read from channel k on, are the whole.
use Rattle.decoder.proofs.Readings.{Reading}
use Rattle.decoder.proofs.reading.Scope.read_channels.Given as goal

abbrev pub invariant-loop-k : goal.invariant-loop-k
invariant-loop-k l = Reading l.self.last l.self.channels l.bytes l.at l.registers l.mask l.commands l.next l.bits l.k
