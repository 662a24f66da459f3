-- A signed byte is below 128 and a weight at most 128, so that the product fits.
use borrow.Author.Rules.{rules}
use Rattle.voice_runs.proofs.Weights.{product_fits, product_is, product_range}
use Rattle.voice_runs.proofs.bytes.weighed.Goals as goal

pub overflow_mul-result : goal.overflow_mul-result
overflow_mul-result c = search (product_fits, rules)

pub returns : goal.returns
returns c = search (product_is, product_range, rules)
