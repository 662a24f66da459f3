-- The checksum stays below its modulus, so a step of it fits 32 bits.
use Rattle.std.proofs.Common.{◌<◌}
use Rattle.case_files.proofs.playing.checksum.Given as goal

abbrev pub invariant-loop-x : goal.invariant-loop-x
invariant-loop-x l = l.h < 65521
