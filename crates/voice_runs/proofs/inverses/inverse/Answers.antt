-- Division by 0 gives 0 in the definition, so that the inverse of 0 is 1.
use borrow.Author.Rules.{rules}
use Rattle.runs.specs.Inverses.{inverse_none, inverse_quotient, inverse_fits}
use Rattle.voice_runs.proofs.inverses.inverse.Goals as goal

pub returns-then-growth-eq0 : goal.returns-then-growth-eq0
returns-then-growth-eq0 c = search (inverse_none, rules)

pub overflow_add-result : goal.overflow_add-result
overflow_add-result c = search (inverse_fits, rules)

pub returns : goal.returns
returns c = search (inverse_quotient, rules)
