-- The loop: what the cells of the channels passed do to the song.
use Rattle.std.proofs.Common.{rules}
use Rattle.sequencer.proofs.Laws.{flow_again}
use Rattle.sequencer.specs.Row.{flow_through}
use Rattle.sequencer.proofs.row.Row.flow.Goals as goal

pub loop-i-init : goal.loop-i-init
unfolding flow_through
loop-i-init c = search rules

pub loop-i-preserved : goal.loop-i-preserved
loop-i-preserved c = search (flow_again, rules)
