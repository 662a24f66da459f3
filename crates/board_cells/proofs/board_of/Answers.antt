-- The arrival and the machine that the calls ensure.
use Rattle.board_cells.specs.Cells.{board_of}
use borrow.Author.Rules.{rules}
use Rattle.board_cells.proofs.board_of.Goals as goal

pub arrival_of-requires : goal.arrival_of-requires
unfolding board_of
arrival_of-requires c = search rules

pub machine_of-requires : goal.machine_of-requires
unfolding board_of
machine_of-requires c = search rules

pub returns : goal.returns
unfolding board_of
returns c = cc
