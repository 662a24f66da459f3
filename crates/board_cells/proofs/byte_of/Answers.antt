-- The bytes of a cell, one by one.
use Rattle.board_cells.proofs.Laws.{byte_is}
use Rattle.board_cells.proofs.byte_of.Goals as goal

pub returns : goal.returns
returns c = rw c.to_le_bytes.ensures (byte_is c.args.cell c.args.k c.requires)
