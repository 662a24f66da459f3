-- The answer's and the state's cells are those of the reply that `touch` ensures.
use borrow.Author.Rules.{rules}
use Rattle.capi.proofs.Calls.{touch_answered, touch_stated}
use Rattle.capi.proofs.lampthistle_touch.Goals as goal

pub returns-clause-answered : goal.returns-clause-answered
returns-clause-answered c = search (touch_answered, rules)

pub returns-clause-stated : goal.returns-clause-stated
returns-clause-stated c = search (touch_stated, rules)
