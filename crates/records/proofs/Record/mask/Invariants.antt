-- The mask of the channels from k on.
use Rattle.records.proofs.Channels.{Masked}
use Rattle.records.proofs.Record.mask.Given as goal

abbrev pub invariant-loop-k : goal.invariant-loop-k
invariant-loop-k l = Masked l.self.registers.now l.self.tick.now.commands l.self.channels l.mask l.k
