-- A row of the code is that of the definition; a finetune past the last has none.
use Rattle.std.proofs.Common.{rules, ◌≡◌, ◌∙◌, get_or}
use Rattle.tuning.specs.declared.table.TheConstants.{ROWS, NO_ROW}
use Rattle.tuning.proofs.Places.{row_printed}
use Rattle.tuning.proofs.table.row_of.Goals as goal

pub returns : goal.returns
returns c = let h : c.unwrap_or.result.now ≡ get_or ROWS c.args.finetune NO_ROW = search rules in h ∙ row_printed c.args.finetune
