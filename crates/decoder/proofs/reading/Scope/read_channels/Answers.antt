-- The commands that were read, before what is left to read from channel k on, are the whole.
-- Assumes nothing.
use borrow.Author.Rules.{rules}
use Rattle.decoder.proofs.Readings.{reading_more}
use Rattle.decoder.proofs.reading.Scope.read_channels.Goals as goal

pub loop-k-preserved : goal.loop-k-preserved
loop-k-preserved c =
    reading_more _ _ _ _ _ _ _ _ _ _ c.loop-k.invariant c.args.self.now.few (search rules) c.loop-k-test.true _ _ (search rules)
