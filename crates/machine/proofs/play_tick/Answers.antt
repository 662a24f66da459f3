-- The tick's length decides whether it fits; where it does, its frames are mixed.
use Rattle.machine.proofs.Laws.{tick_full, tick_played}
use borrow.Author.Rules.{rules}
use Rattle.machine.proofs.play_tick.Goals as goal

pub returns-then-out-size : goal.returns-then-out-size
returns-then-out-size c = search (tick_full, rules)

pub returns : goal.returns
returns c = search (tick_played, rules)
