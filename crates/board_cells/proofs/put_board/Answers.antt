-- Of a kept fault or none the cells are those of the board, of a refusal what they were.
use Rattle.board_cells.proofs.Laws.{after_kept, after_refused}
use borrow.Author.Rules.{rules}
use Rattle.board_cells.proofs.put_board.Goals as goal

pub returns-then-is_kept_fault : goal.returns-then-is_kept_fault
returns-then-is_kept_fault c = search (after_kept, rules)

pub returns-else-is_kept_fault : goal.returns-else-is_kept_fault
returns-else-is_kept_fault c = search (after_refused, rules)
