-- The loop: the bytes that are taken, followed by those that are left, are the call's (`Taking`). After a fault those that are left do nothing.
use Prim.Native.Nat.{◌-◌}
use lib.ListN.{length}
use Rattle.feed.proofs.Turns.{Taking}
use Rattle.feed.proofs.feeding.Feeding.feed.Given as goal

abbrev pub invariant-loop-i : goal.invariant-loop-i
invariant-loop-i l = Taking l.initial.self.module.now l.initial.self.board l.bytes l.initial.out l.self.module.now l.self.board l.out l.at l.i

abbrev pub decreases-loop-i : goal.decreases-loop-i
decreases-loop-i l = length l.bytes - l.i
