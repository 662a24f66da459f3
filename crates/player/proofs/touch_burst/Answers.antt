-- By the verdict: a refusal leaves state and answers, otherwise the burst is decided by its own lines.
use Rattle.player.proofs.Admitted.{not_admitted, burst_admitted}
use Rattle.player.specs.Burst.{burst_of}
use Rattle.std.proofs.Common.{rules}
use Rattle.player.proofs.touch_burst.Goals as goal

pub returns-in_err-module : goal.returns-in_err-module
unfolding burst_of
returns-in_err-module c = search (not_admitted, rules)

pub returns : goal.returns
returns c = burst_admitted _ _ c.in_ok-module.ensures.judged c.in_ok-module.module c.in_ok-module.ensures.own _ _ _ _ c.take_burst.ensures
