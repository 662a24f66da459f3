-- Its voice's cells come behind its own.
use Rattle.cells.proofs.Laws.{put_both}
use borrow.Author.Rules.{rules}
use Rattle.cells.proofs.put_channel.Goals as goal

pub returns : goal.returns
returns c = search (put_both, rules)
