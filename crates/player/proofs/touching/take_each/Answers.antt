-- The loop: after k touches the state is theirs, and the first k answers are (`Taking`).
use Rattle.std.proofs.Common.{rules}
use Rattle.player.proofs.Touches.{taking_none, taking_one, taking_end}
use Rattle.player.proofs.touching.take_each.Goals as goal

pub loop-k-init : goal.loop-k-init
loop-k-init c = search (taking_none, rules)

pub loop-k-preserved : goal.loop-k-preserved
loop-k-preserved c = search (taking_one, rules)

pub returns : goal.returns
returns c = search (taking_end, rules)
