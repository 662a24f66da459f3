-- 1 to 9 and 14, then 24, then the play.
use Rattle.std.proofs.Common.{rules}
use Rattle.player.proofs.Admitted.{admitted_playable}
use Rattle.float_player.proofs.Calls.{floats_refused, floats_unasked, floats_played}
use Rattle.float_player.proofs.try_floats.Goals as goal

pub returns-in_err-module : goal.returns-in_err-module
returns-in_err-module c = search (floats_refused, rules)

pub returns-in_err-sides : goal.returns-in_err-sides
returns-in_err-sides c = search (floats_unasked, rules)

pub play_ticks-requires : goal.play_ticks-requires
play_ticks-requires c = (admitted_playable _ _ c.in_ok-module.ensures.judged c.in_ok-module.module c.in_ok-module.ensures.own).legal

pub returns : goal.returns
returns c = floats_played _ _ _ _ _ _ c.in_ok-module.ensures.judged c.in_ok-module.module c.in_ok-module.ensures.own c.in_ok-sides.sides c.in_ok-sides.ensures _ _ c.play_ticks.ensures
