-- What is written up to a place and what the mask's bits from a channel on say are the whole.
use Rattle.records.proofs.Channels.{Written}
use Rattle.records.proofs.put_commands.Given as goal

abbrev pub invariant-loop-command : goal.invariant-loop-command
invariant-loop-command l = Written l.commands l.mask l.initial.room l.at l.room l.next l.bits l.command-index
