-- What is accepted is whole.
-- Assumes nothing.
use Rattle.std.proofs.lemmas.Grind.{common_steps}
use Rattle.std.proofs.Common.{arith}
use Rattle.common.specs.Answers.{refusing}
use Rattle.records.specs.Format.{decode_after}
use Rattle.decoder.specs.Answers.{answer_of}
use Rattle.decoder.specs.Remaining.{whole_by}
use Rattle.decoder.proofs.stream.Stream.read.Goals as goal

pub invariant_of-result : goal.invariant_of-result
unfolding decode_after refusing answer_of
invariant_of-result c = record { whole = whole_by _ _ _ (grind (arith, common_steps)) }
