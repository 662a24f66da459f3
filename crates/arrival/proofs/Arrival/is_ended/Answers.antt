-- The declared length is at least four, so that no sum of fewer is it.
use borrow.Author.Rules.{rules}
use Rattle.arrival.proofs.Laws.{ended_is}
use Rattle.arrival.proofs.Arrival.is_ended.Goals as goal

pub returns : goal.returns
returns c = search (ended_is, rules)
