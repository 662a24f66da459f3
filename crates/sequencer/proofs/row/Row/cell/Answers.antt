-- The cells are there, since the row begins where the struct says.
use Rattle.std.proofs.Common.{rules}
use Rattle.sequencer.proofs.Laws.{cell_read}
use Rattle.sequencer.proofs.row.Row.cell.Goals as goal

pub returns : goal.returns
returns c = search (cell_read, rules)
