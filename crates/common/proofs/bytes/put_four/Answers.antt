-- The bytes that are copied are the number's.
use Rattle.std.proofs.Common.{◌∙◌, arith}
use Rattle.common.proofs.Laws.{four_lowest, four_put}
use Rattle.common.proofs.bytes.put_four.Goals as goal

pub returns : goal.returns
returns c = four_put _ _ _ _ _ c.requires (omega arith) (c.copy_from_slice.ensures.after ∙ c.to_be_bytes.ensures ∙ four_lowest _ _ (omega arith))
