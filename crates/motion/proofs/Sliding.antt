-- What a slide up rests on: a sum past 16 or 32 bits is above the row's first entry, and kept at it.
-- Assumes nothing.
use Rattle.std.specs.Prelude.{ℕ, ◌+◌, ◌-◌, ◌^◌, ◌<◌, min, ◌≡◌}
use Rattle.std.proofs.Common.{arith, ◌∙◌, ne_eqb}
use Rattle.common.specs.Limits.{greatest_period}
use Rattle.tuning.specs.Kept.{kept_most}
use Rattle.tuning.specs.Tuned.{kept}
use Rattle.motion.specs.Slides.{raised}

raised_to : (f p d most s r : ℕ) → greatest_period < most → (p ≡ 0 → ⊥) → s ≡ min (p + d) most → r ≡ kept f s → r ≡ raised f p d
unfolding raised
raised_to f p d most s r h z e q = q ∙ rw (e, ne_eqb p 0 z) (kept_most f (p + d) most h)

pub raised_by : (f p d s r : ℕ) → (p ≡ 0 → ⊥) → s ≡ min (p + d) (2 ^ 16 - 1) → r ≡ kept f s → r ≡ raised f p d
raised_by f p d s r = raised_to f p d (2 ^ 16 - 1) s r (omega arith)

pub raised_wide : (f p d s r : ℕ) → (p ≡ 0 → ⊥) → s ≡ min (p + d) (2 ^ 32 - 1) → r ≡ kept f s → r ≡ raised f p d
raised_wide f p d s r = raised_to f p d (2 ^ 32 - 1) s r (omega arith)
