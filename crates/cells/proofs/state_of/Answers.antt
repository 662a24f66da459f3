-- The song and the voices that the calls ensure, and the cell of the remainder.
use Rattle.cells.specs.Cells.{state_of}
use Rattle.cells.proofs.state_of.Goals as goal

pub returns : goal.returns
unfolding state_of
returns c = cc
