-- The wrapped difference is the one number below 2^32 that gives the clock again when made is added.
use Rattle.player.specs.Touch.{age_of}
use Rattle.std.proofs.Common.{arith}
use Rattle.player.proofs.touching.Touch.age.Goals as goal

pub returns : goal.returns
unfolding age_of
returns c = omega arith
