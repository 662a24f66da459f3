-- The run stands in place of the bytes behind those that are kept.
use borrow.Author.Rules.{rules}
use Rattle.arrival.proofs.Laws.{run_kept}
use Rattle.arrival.proofs.Arrival.keep_run.Goals as goal

pub returns : goal.returns
returns c = rw (run_kept c.args.self.now.kept c.args.self.now.bytes c.args.run.now c.copy_from_slice.new.self c.copy_from_slice.ensures.after (search rules))
