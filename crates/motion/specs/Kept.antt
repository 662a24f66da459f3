-- Slides and waves keep periods, volumes and waves legal. What up and down keep, a wave keeps: `wavered_keeps`.
-- Assumes nothing.
use Rattle.std.specs.Prelude.{ℕ, ◌+◌, ◌-◌, ◌%◌, ◌≤◌, ◌<◌, min, max, Bool, cond, eqb}
use Rattle.std.proofs.Common.{arith}
use Rattle.laws.specs.Choice.{either}
use Rattle.laws.specs.Numbers.{cond-le}
use Rattle.common.specs.Limits.{loudest, least_period, greatest_period}
use Rattle.common.specs.LimitFacts.{LegalPeriod}
use Rattle.common.specs.LimitFacts.LegalPeriod.{silent, sounding}
use Rattle.tuning.specs.Table.{last_finetune}
use Rattle.tuning.specs.Kept.{kept_legal}
use Rattle.motion.specs.Slides.{lowered, raised, towards, louder, softer}
use Rattle.motion.specs.Waves.{whole_wave, is_raising, wavered, vibrato_divisor, vibrated, tremolo_divisor, trembled, moved, remembered}
use Rattle.motion.specs.LegalFacts.{LegalWave}
use Rattle.motion.specs.declared.Wave.{Wave}

-- ---- slides
pub cond-period : (b : Bool) (x y : ℕ) → LegalPeriod x → LegalPeriod y → LegalPeriod (cond b x y)
cond-period b x y p q = either LegalPeriod b x y (λ e. p) (λ e. q)

pub louder_le : (v d : ℕ) → louder v d ≤ loudest
louder_le v d = omega arith

pub softer_le : (v d : ℕ) → v ≤ loudest → softer v d ≤ loudest
softer_le v d h = omega arith

in-range : (p : ℕ) → least_period ≤ p → p ≤ greatest_period → LegalPeriod p
in-range p a b = sounding a b

min-period : (p d t : ℕ) → least_period ≤ p → least_period ≤ t → t ≤ greatest_period → LegalPeriod (min (p + d) t)
min-period p d t a b e = in-range _ (omega arith) (omega arith)

max-period : (p d t : ℕ) → p ≤ greatest_period → least_period ≤ t → t ≤ greatest_period → LegalPeriod (max (p - d) t)
max-period p d t a b e = in-range _ (omega arith) (omega arith)

pub lowered_legal : (f p d : ℕ) → f ≤ last_finetune → LegalPeriod (lowered f p d)
unfolding lowered
lowered_legal f p d h = cond-period (eqb p 0) 0 _ silent (kept_legal f h (p - d))

pub raised_legal : (f p d : ℕ) → f ≤ last_finetune → LegalPeriod (raised f p d)
unfolding raised
raised_legal f p d h = cond-period (eqb p 0) 0 _ silent (kept_legal f h (p + d))

pub towards_legal : (p t d : ℕ) → LegalPeriod p → LegalPeriod t → LegalPeriod (towards p t d)
unfolding towards
towards_legal p t d silent h = silent
towards_legal p t d (sounding a b) silent = search (cond-period, silent, in-range)
towards_legal p t d (sounding a b) (sounding e f) = search (cond-period, silent, in-range, min-period, max-period)

-- ---- waves
wavered_keeps : (P : ℕ → Type 0) (up down : ℕ → ℕ → ℕ) → ((n d : ℕ) → P n → P (up n d)) → ((n d : ℕ) → P n → P (down n d)) → (divisor : ℕ) (w : Wave) (n : ℕ) → P n → P (wavered up down divisor w n)
unfolding wavered
wavered_keeps P up down f g divisor w n h = either P (is_raising w.place) _ _ (λ e. f n _ h) (λ e. g n _ h)

pub vibrated_legal : (f : ℕ) (w : Wave) (p : ℕ) → f ≤ last_finetune → LegalPeriod p → LegalPeriod (vibrated f w p)
vibrated_legal f w p l h = wavered_keeps LegalPeriod (raised f) (lowered f) (λ n d k. raised_legal f n d l) (λ n d k. lowered_legal f n d l) vibrato_divisor w p h

pub trembled_le : (w : Wave) (v : ℕ) → v ≤ loudest → trembled w v ≤ loudest
trembled_le w v h = wavered_keeps (λ (n : ℕ). n ≤ loudest) louder softer (λ n d l. louder_le n d) softer_le tremolo_divisor w v h

around_less : (n : ℕ) → n % whole_wave < whole_wave
around_less n = omega arith

pub moved_legal : (used : Bool) (w : Wave) → LegalWave w → LegalWave (moved used w)
unfolding moved
moved_legal used w l = either LegalWave used _ _ (λ e. record { x = l.x; y = l.y; place = around_less _; form = l.form }) (λ e. l)

-- ---- memory
pub remembered_le : (k : ℕ) (given : Bool) (n old : ℕ) → n ≤ k → old ≤ k → remembered given n old ≤ k
unfolding remembered
remembered_le k given n old h l = search (cond-le, h, l)
