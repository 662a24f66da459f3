-- The loop: the voices are read up to one.
use Rattle.laws.specs.Each.{fills}
use borrow.Author.Rules.{rules}
use Rattle.board_cells.proofs.voices_of.Goals as goal

pub loop-i-init : goal.loop-i-init
loop-i-init c = search (fills, rules)

pub loop-i-preserved : goal.loop-i-preserved
loop-i-preserved c = search (fills, rules)

pub returns : goal.returns
returns c = search (fills, rules)
