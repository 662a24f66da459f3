-- A 16-bit number is a float without loss, and its quotient by 32,768 is exact (`side_is`).
use Rattle.floats.proofs.Laws.{side_is, side_exact}
use Rattle.floats.proofs.side_number.Goals as goal

pub returns-clause-number : goal.returns-clause-number
returns-clause-number c = side_is c.args.x c.ranges.x

pub returns-clause-bits : goal.returns-clause-bits
returns-clause-bits c = side_exact c.args.x c.ranges.x
