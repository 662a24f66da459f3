-- A run over a part of the cells is a run of stores.
use Rattle.std.proofs.lemmas.List.Edits.{sets-eq}
use Rattle.std.proofs.lemmas.Grind.{common_steps}
use Rattle.std.proofs.Common.{arith}
use Rattle.cells.proofs.put.Goals as goal

pub returns : goal.returns
returns c = grind (arith, sets-eq, common_steps)
