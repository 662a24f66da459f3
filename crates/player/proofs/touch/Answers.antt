-- By the verdict: a refusal leaves the state, otherwise the touch is decided by its own lines.
use Rattle.player.proofs.Admitted.{not_admitted, touch_admitted}
use Rattle.player.specs.Touch.{touch_of}
use Rattle.std.proofs.Common.{rules}
use Rattle.player.proofs.touch.Goals as goal

pub returns-in_err-module : goal.returns-in_err-module
unfolding touch_of
returns-in_err-module c = search (not_admitted, rules)

pub returns : goal.returns
returns c = search (touch_admitted, rules)
