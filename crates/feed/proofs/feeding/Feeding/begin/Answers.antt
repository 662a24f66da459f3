-- The board was tested.
use borrow.Author.Rules.{rules}
use Rattle.feed.proofs.Laws.{begun_held, judged_legal, judged_illegal}
use Rattle.feed.proofs.feeding.Feeding.begin.Goals as goal

pub returns-then-not-is_legal-clause-judged : goal.returns-then-not-is_legal-clause-judged
returns-then-not-is_legal-clause-judged c = search (judged_illegal, rules)

pub invariant_of-result : goal.invariant_of-result
invariant_of-result c = search (begun_held, rules)

pub returns-clause-judged : goal.returns-clause-judged
returns-clause-judged c = search (judged_legal, rules)
