-- The answer's and the state's cells and the buffer are those of the outcome that `play` ensures.
use Rattle.capi.proofs.Calls.{play_answered, play_stated, play_left}
use borrow.Author.Rules.{rules}
use Rattle.capi.proofs.lampthistle_play.Goals as goal

pub returns-clause-answered : goal.returns-clause-answered
returns-clause-answered c = search (play_answered, rules)

pub returns-clause-stated : goal.returns-clause-stated
returns-clause-stated c = search (play_stated, rules)

pub returns-clause-sounded : goal.returns-clause-sounded
returns-clause-sounded c = search (play_left, rules)
