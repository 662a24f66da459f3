-- What is written up to a place and what the mask's bits from a channel on say are the whole.
-- Assumes nothing.
use borrow.Author.Rules.{rules}
use Rattle.records.proofs.Channels.{written_some, written_skip}
use Rattle.records.proofs.put_commands.Goals as goal
use Rattle.records.proofs.put_commands.Goals.{then-bits-eq1, else-bits-eq1}

pub loop-command-preserved : goal.loop-command-preserved
loop-command-preserved c =
    elim c.if-bits-eq1.branch [
      | then-bits-eq1 w ↦ written_some _ _ _ _ _ _ _ _ c.loop-command.invariant c.loop-command-test.true _ _ (search rules) (search rules) (search rules)
      | else-bits-eq1 w ↦ written_skip _ _ _ _ _ _ _ _ c.loop-command.invariant c.loop-command-test.true _ _ (search rules) (search rules) (search rules)
    ]
