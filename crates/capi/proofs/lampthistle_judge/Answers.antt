-- The cells of the answer that `judge` ensures.
use borrow.Author.Rules.{rules}
use Rattle.capi.proofs.Calls.{said}
use Rattle.capi.proofs.lampthistle_judge.Goals as goal

pub returns : goal.returns
returns c = search (said, rules)
