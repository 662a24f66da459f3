-- The answer's and the state's cells and the answers are those of the outcome that `touch_burst` ensures.
use Rattle.capi.proofs.Calls.{burst_answered, burst_stated, burst_left}
use borrow.Author.Rules.{rules}
use Rattle.capi.proofs.lampthistle_touch_burst.Goals as goal

pub returns-clause-answered : goal.returns-clause-answered
returns-clause-answered c = search (burst_answered, rules)

pub returns-clause-stated : goal.returns-clause-stated
returns-clause-stated c = search (burst_stated, rules)

pub returns-clause-written : goal.returns-clause-written
returns-clause-written c = search (burst_left, rules)
