-- The tick's length decides whether it fits; where it does, its frames are mixed.
use Rattle.machine.proofs.Laws.{tick_full, tick_played}
use borrow.Author.Rules.{rules}
use Rattle.machine.proofs.sounder.IntegersSounder.play_tick.Goals as goal

pub returns-then-out-size-clause-turned : goal.returns-then-out-size-clause-turned
returns-then-out-size-clause-turned c = search (tick_full, rules)

pub returns-clause-turned : goal.returns-clause-turned
returns-clause-turned c = search (tick_played, rules)
