-- The tests are those of the definition, in its order.
use Rattle.laws.specs.Tests.{tests}
use Rattle.cells.specs.Cells.{finetune_of}
use borrow.Author.Rules.{rules}
use Rattle.cells.proofs.finetune_of.Goals as goal

pub returns-then-cell-lt-LEAST_BELOW : goal.returns-then-cell-lt-LEAST_BELOW
unfolding finetune_of
returns-then-cell-lt-LEAST_BELOW c = search (tests, rules)

pub returns-then-cell : goal.returns-then-cell
unfolding finetune_of
returns-then-cell c = search (tests, rules)

pub returns : goal.returns
unfolding finetune_of
returns c = search (tests, rules)
