-- That a voice is legal beside its sample is a fact of one proof, so that a struct can keep it.
-- Assumes nothing.
use Rattle.std.specs.Prelude.{◌≡◌, refl, ℕ}
use Rattle.std.proofs.Common.{ap₂, arith}
use Rattle.std.specs.Coded.{le_prop}
use Rattle.std.proofs.Props.{props}
use Rattle.common.specs.LimitFacts.{LegalPeriod}
use Rattle.common.specs.LimitFacts.LegalPeriod.{silent, sounding}

period_once : {p : ℕ} (x y : LegalPeriod p) → x ≡ y
period_once silent silent = refl
period_once silent (sounding l h) = absurd (omega arith)
period_once (sounding l h) silent = absurd (omega arith)
period_once (sounding l h) (sounding m k) = ap₂ (λ a b. sounding a b) (le_prop l m) (le_prop h k)

pub period_prop : (p : ℕ) → IsProp (LegalPeriod p)
period_prop p x y = period_once x y

pub ruleset legal_props = (props, period_prop)
