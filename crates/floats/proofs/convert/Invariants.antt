-- The loop: the numbers that are stored, followed by those of the frames that are left, are the whole (`Going`).
use Prim.Native.Nat.{◌*◌}
use Rattle.floats.specs.Asked.{count_of}
use Rattle.floats.proofs.Converting.{Going}
use Rattle.floats.proofs.convert.Given as goal

abbrev pub invariant-loop-pair : goal.invariant-loop-pair
invariant-loop-pair l = Going (count_of l.sides) l.tick l.frames l.initial.out l.initial.last l.out l.last l.at (2 * l.pair-index)
