-- The row's work keeps the song legal, so that its ticks are few.
use Rattle.std.proofs.Common.{rules}
use Rattle.sequencer.proofs.Laws.{work_time}
use Rattle.sequencer.proofs.tick_in.Goals as goal

pub advanced-requires : goal.advanced-requires
advanced-requires c = search (work_time, rules)
