-- Where the waves are not touched they stay.
use Rattle.std.proofs.Common.{◌∙◌}
use Rattle.effects.specs.Untouched.{waves_stay}
use Rattle.effects.proofs.work.row_channel.Goals as goal

pub returns-then-not-touches_waves : goal.returns-then-not-touches_waves
returns-then-not-touches_waves c = c.row_numbers-next.ensures ∙ waves_stay _ _ _ _ c.touches_waves.ensures c.if-not-touches_waves.true
