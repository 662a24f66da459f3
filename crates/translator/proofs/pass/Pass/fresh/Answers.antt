-- A fresh song is legal, with no sample sounding.
use borrow.Author.Rules.{rules}
use Rattle.translator.proofs.Passing.{run_laws}
use Rattle.translator.proofs.pass.Pass.fresh.Goals as goal

pub invariant_of-result : goal.invariant_of-result
invariant_of-result c = search (run_laws, rules)
