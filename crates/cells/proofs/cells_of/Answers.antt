-- The loop: the channels' cells are written behind the song's, up to a channel.
use Rattle.cells.proofs.Laws.{writes}
use borrow.Author.Rules.{rules}
use Rattle.cells.proofs.cells_of.Goals as goal

pub loop-i-init : goal.loop-i-init
loop-i-init c = search (writes, rules)

pub loop-i-preserved : goal.loop-i-preserved
loop-i-preserved c = search (writes, rules)

pub returns : goal.returns
returns c = search (writes, rules)
