-- The tests are those of the definition, in its order.
use Rattle.laws.specs.Tests.{tests}
use Rattle.cells.specs.Cells.{finetune_cell}
use borrow.Author.Rules.{rules}
use Rattle.cells.proofs.finetune_cell.Goals as goal

pub returns-then-cell-lt-LEAST_BELOW : goal.returns-then-cell-lt-LEAST_BELOW
unfolding finetune_cell
returns-then-cell-lt-LEAST_BELOW c = search (tests, rules)

pub returns-then-finetune-le-LAST_FINETUNE : goal.returns-then-finetune-le-LAST_FINETUNE
unfolding finetune_cell
returns-then-finetune-le-LAST_FINETUNE c = search (tests, rules)

pub returns : goal.returns
unfolding finetune_cell
returns c = search (tests, rules)
