-- The answer's and the state's cells are those of the reply that `change_page` ensures.
use borrow.Author.Rules.{rules}
use Rattle.capi.proofs.Calls.{page_answered, page_stated}
use Rattle.capi.proofs.lampthistle_change_page.Goals as goal

pub returns-clause-answered : goal.returns-clause-answered
returns-clause-answered c = search (page_answered, rules)

pub returns-clause-stated : goal.returns-clause-stated
returns-clause-stated c = search (page_stated, rules)
