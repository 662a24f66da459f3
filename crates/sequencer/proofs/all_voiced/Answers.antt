-- The loop: channels and commands are filled with what the channels passed give.
use Rattle.std.proofs.Common.{rules}
use Rattle.sequencer.proofs.Laws.{voicing_begin, voicing_again, voicing_end}
use Rattle.sequencer.proofs.all_voiced.Goals as goal

pub loop-i-init : goal.loop-i-init
loop-i-init c = search (voicing_begin, rules)

pub loop-i-preserved : goal.loop-i-preserved
loop-i-preserved c = search (voicing_again, rules)

pub returns : goal.returns
returns c = search (voicing_end, rules)
