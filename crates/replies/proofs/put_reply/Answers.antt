-- The answer is the reply's; the state's cells are its state's, or on a refusal those that were there.
use Rattle.replies.proofs.Refusals.{kept_cells, new_cells}
use borrow.Author.Rules.{rules}
use Rattle.replies.proofs.put_reply.Goals as goal

pub returns-then-said-ne0-clause-stated : goal.returns-then-said-ne0-clause-stated
returns-then-said-ne0-clause-stated c = search (kept_cells, rules)

pub returns-clause-stated : goal.returns-clause-stated
returns-clause-stated c = search (new_cells, rules)
