-- The product is small, since the channels are few.
use Rattle.translator.proofs.Calls.{records_fit, most_fits}
use borrow.Author.Rules.{rules}
use Rattle.translator.proofs.passes.most_len.Goals as goal

pub overflow_mul-result-2 : goal.overflow_mul-result-2
overflow_mul-result-2 c = search (records_fit, most_fits, rules)

pub overflow_add-result-2 : goal.overflow_add-result-2
overflow_add-result-2 c = search (records_fit, most_fits, rules)
