-- Neither one nor two.
use Rattle.std.proofs.Common.{rules}
use Rattle.floats.specs.Asked.{neither_one_nor_two}
use Rattle.floats.proofs.SidesTryFromU32.try_from.Goals as goal

pub returns-in_default : goal.returns-in_default
returns-in_default c = (search (neither_one_nor_two, rules), c.at.ensures)
