-- The waves' cells come behind the plain ones.
use Rattle.cells.proofs.Laws.{put_three}
use borrow.Author.Rules.{rules}
use Rattle.cells.proofs.put_own.Goals as goal

pub returns : goal.returns
returns c = search (put_three, rules)
