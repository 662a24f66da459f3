-- The channels so far have their paces.
use borrow.Author.Rules.{rules}
use native.Mathlib.Omega.{arith}
use Rattle.mixing.proofs.Pacing.{pacing_more}
use Rattle.mixing.proofs.paces_of.Goals as goal

pub loop-i-preserved : goal.loop-i-preserved
loop-i-preserved c = record { long = search rules; paced = pacing_more _ _ _ _ c.loop-i.invariant.paced (omega (arith, c.loop-i.invariant.long)) c.pace.ensures }
