-- The loop: the voices' cells are written behind the front, up to a voice.
use Rattle.board_cells.proofs.Laws.{writes}
use borrow.Author.Rules.{rules}
use Rattle.board_cells.proofs.cells_of.Goals as goal

pub loop-i-init : goal.loop-i-init
loop-i-init c = search (writes, rules)

pub loop-i-preserved : goal.loop-i-preserved
loop-i-preserved c = search (writes, rules)

pub returns : goal.returns
returns c = search (writes, rules)
