-- The fresh channel is the default, and the test is of equality.
use Rattle.std.proofs.Common.{rules}
use Rattle.effects.proofs.Fresh.{fresh_tested}
use Rattle.effects.proofs.Channel.is_fresh.Goals as goal

pub returns : goal.returns
returns c = fresh_tested _ c.default.result _ (search rules) (search rules) (search rules)
