-- Module and state are judged: a refusal leaves state and buffer, otherwise the play is the one that `play_ticks` ensures.
use Rattle.player.proofs.Admitted.{not_admitted, admitted_playable, play_admitted}
use Rattle.player.specs.Play.{play_of}
use Rattle.std.proofs.Common.{rules}
use Rattle.player.proofs.play.Goals as goal

pub returns-in_err-module : goal.returns-in_err-module
unfolding play_of
returns-in_err-module c = search (not_admitted, rules)

pub play_ticks-played-requires : goal.play_ticks-played-requires
play_ticks-played-requires c = (admitted_playable _ _ c.in_ok-module.ensures.judged c.in_ok-module.module c.in_ok-module.ensures.own).legal

pub returns : goal.returns
returns c = play_admitted _ _ c.in_ok-module.ensures.judged c.in_ok-module.module c.in_ok-module.ensures.own _ _ c.play_ticks-played.result _ c.play_ticks-played.ensures
