-- A refusal's number is never 0, so an answer with number 0 is an accepted call's.
-- Assumes nothing.
use Rattle.std.specs.Prelude.{◌<◌, ◌≡◌}
use Rattle.std.proofs.Common.{arith}
use Rattle.common.specs.declared.refusals.Rule.{Rule}
use Rattle.common.specs.Answers.{number_of}

pub number_above_0 : (r : Rule) → 0 < number_of r
number_above_0 r = grind arith

pub refused_by_a_rule : (r : Rule) → number_of r ≡ 0 → ⊥
refused_by_a_rule r e = let h : 0 < number_of r = number_above_0 r in omega (arith, e)
