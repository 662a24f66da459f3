-- The sum fits 17 bits, so it is a float without loss, and its quotient by 65,536 is exact (`mono_is`).
use Rattle.floats.proofs.Laws.{narrow_fits, sum_fits, sum_in_float, mono_is, mono_exact}
use Rattle.floats.proofs.mono_number.Goals as goal

pub overflow_cast-result : goal.overflow_cast-result
overflow_cast-result c = narrow_fits c.args.left c.ranges.left

pub overflow_cast-result-2 : goal.overflow_cast-result-2
overflow_cast-result-2 c = narrow_fits c.args.right c.ranges.right

pub overflow_add-result : goal.overflow_add-result
overflow_add-result c = sum_fits c.args.left c.args.right c.ranges.left c.ranges.right

pub int_to_float-result : goal.int_to_float-result
int_to_float-result c = sum_in_float c.args.left c.args.right c.ranges.left c.ranges.right

pub returns-clause-number : goal.returns-clause-number
returns-clause-number c = mono_is c.args.left c.args.right c.ranges.left c.ranges.right

pub returns-clause-bits : goal.returns-clause-bits
returns-clause-bits c = mono_exact c.args.left c.args.right c.ranges.left c.ranges.right
