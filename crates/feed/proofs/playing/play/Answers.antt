-- The shared machine's turn, on the machine as the tick finds it, is the version's turn.
use borrow.Author.Rules.{rules}
use Rattle.feed.proofs.Laws.{under_full, under_plays}
use Rattle.feed.proofs.playing.play.Goals as goal

pub returns-then-turn : goal.returns-then-turn
returns-then-turn c = search (under_full, rules)

pub returns : goal.returns
returns c = search (under_plays, rules)
