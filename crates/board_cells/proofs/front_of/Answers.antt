-- Each run begins where the one before it ends.
use Rattle.board_cells.proofs.Laws.{fronted}
use borrow.Author.Rules.{rules}
use Rattle.board_cells.proofs.front_of.Goals as goal

pub returns : goal.returns
returns c = search (fronted, rules)
