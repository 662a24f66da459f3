-- The masks keep two bits and a byte of each half.
use Rattle.std.proofs.Common.{arith, ◌/◌}
use lib.Bits.{and_le_r}
use Rattle.reader.proofs.halves.periods.Goals as goal

pub overflow_mul-result : goal.overflow_mul-result
overflow_mul-result c = omega (arith, and_le_r c.args.both 0x00030003)

pub overflow_add-result : goal.overflow_add-result
overflow_add-result c = omega (arith, and_le_r c.args.both 0x00030003, and_le_r (c.args.both / 256) 0x00FF00FF)
