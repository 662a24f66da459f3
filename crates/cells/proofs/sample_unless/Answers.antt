-- The test is that of the definition.
use Rattle.laws.specs.Tests.{tests}
use Rattle.cells.specs.Cells.{sample_unless}
use borrow.Author.Rules.{rules}
use Rattle.cells.proofs.sample_unless.Goals as goal

pub returns-then-lost : goal.returns-then-lost
unfolding sample_unless
returns-then-lost c = search (tests, rules)

pub byte_number-requires : goal.byte_number-requires
unfolding sample_unless
byte_number-requires c = search rules

pub returns : goal.returns
unfolding sample_unless
returns c = search (tests, rules)
