-- The cells are those of the fresh board.
use Rattle.capi.proofs.lampthistle_board_fresh.Goals as goal

pub returns : goal.returns
returns c = rw (c.cells_of.ensures, c.board_fresh.ensures)
