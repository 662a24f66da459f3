-- Answer, cells and frames are those of the equation that the call ensures.
use Rattle.capi.proofs.Feeding.{feed_answered, feed_stated, feed_left}
use borrow.Author.Rules.{rules}
use Rattle.capi.proofs.lampthistle_board_feed.Goals as goal

pub returns-clause-answered : goal.returns-clause-answered
returns-clause-answered c = search (feed_answered, rules)

pub returns-clause-stated : goal.returns-clause-stated
returns-clause-stated c = search (feed_stated, rules)

pub returns-clause-sounded : goal.returns-clause-sounded
returns-clause-sounded c = search (feed_left, rules)
