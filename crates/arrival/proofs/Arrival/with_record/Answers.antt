-- A record is awaited where none is open.
use borrow.Author.Rules.{rules}
use Rattle.arrival.proofs.Laws.{awaited_more, awaited_first, awaited_few}
use Rattle.arrival.proofs.Arrival.with_record.Goals as goal

pub keep_run-requires : goal.keep_run-requires
keep_run-requires c = search (awaited_first, rules)

pub play-requires-clause-few : goal.play-requires-clause-few
play-requires-clause-few c = search (awaited_few, rules)

pub play-requires-clause-more : goal.play-requires-clause-more
play-requires-clause-more c = search (awaited_more, rules)
