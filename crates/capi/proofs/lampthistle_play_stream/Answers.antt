-- The answer's cells and the buffer are those of the outcome that `play_stream` ensures.
use Rattle.capi.proofs.Calls.{answered, left}
use borrow.Author.Rules.{rules}
use Rattle.capi.proofs.lampthistle_play_stream.Goals as goal

pub returns-clause-answered : goal.returns-clause-answered
returns-clause-answered c = search (answered, rules)

pub returns-clause-sounded : goal.returns-clause-sounded
returns-clause-sounded c = search (left, rules)
