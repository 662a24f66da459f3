-- The mask of the channels from k on.
-- Assumes nothing.
use Rattle.records.proofs.Channels.{masked_more}
use Rattle.records.proofs.Record.mask.Goals as goal

pub loop-k-preserved : goal.loop-k-preserved
loop-k-preserved c = masked_more _ _ _ _ _ c.loop-k.invariant _ _ c.loop-k-test.true c.args.self.now.long.0 c.args.self.now.long.1 c.is_changed.ensures c.from.ensures
