-- The voices move by the tick's length.
use Rattle.machine.proofs.Laws.{tick_passed}
use borrow.Author.Rules.{rules}
use Rattle.machine.proofs.pass_tick.Goals as goal

pub returns : goal.returns
returns c = search (tick_passed, rules)
