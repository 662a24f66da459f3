-- The answer and the cells after it are those of the equation that the call ensures.
use Rattle.capi.proofs.Feeding.{close_answered, close_stated}
use borrow.Author.Rules.{rules}
use Rattle.capi.proofs.lampthistle_board_close.Goals as goal

pub returns-clause-answered : goal.returns-clause-answered
returns-clause-answered c = search (close_answered, rules)

pub returns-clause-stated : goal.returns-clause-stated
returns-clause-stated c = search (close_stated, rules)
