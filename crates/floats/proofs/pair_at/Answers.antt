-- The fields are those of the definition.
use borrow.Author.Rules.{rules}
use Rattle.floats.proofs.Converting.{pair_is}
use Rattle.floats.proofs.pair_at.Goals as goal

pub returns : goal.returns
returns c = search (pair_is, rules)
