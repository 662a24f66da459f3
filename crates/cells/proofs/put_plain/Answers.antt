-- The run is the channel's plain cells, with the cell of its finetune.
use Rattle.cells.proofs.put_plain.Goals as goal

pub returns : goal.returns
returns c = cc
