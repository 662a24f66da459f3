-- The loop: after k touches the state is theirs, and the first k answers are (`Taking`).
use Rattle.player.proofs.Touches.{Taking}
use Rattle.player.specs.Burst.{as_burst}
use Rattle.player.proofs.touching.take_each.Given as goal

abbrev pub invariant-loop-k : goal.invariant-loop-k
invariant-loop-k l = Taking l.last (as_burst l.burst) l.initial.state l.initial.answers l.answers l.state l.k
