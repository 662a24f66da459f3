-- A voice stopped, for each channel.
use Rattle.laws.specs.Ranges.{each}
use Rattle.machine.specs.Machine.{fresh_machine}
use Rattle.machine.proofs.fresh.Goals as goal

pub returns : goal.returns
unfolding fresh_machine each
returns c = rw c.fresh-stopped.ensures
