-- What the functions of a wave rest on: the sine by its way up, the bound of an entry's product, and a number that goes up or down.
-- Assumes nothing.
use Prim.Native.Nat.{ℕ}
use mathlib.Core.Path.{◌≡◌}
use mathlib.Core.Bool.{Bool, true, false}
use Rattle.motion.specs.Waves.{is_raising, offset_size, wavered}
use Rattle.motion.specs.declared.Wave.{Wave}

-- ---- a wave up or down, whatever is moved
module _ (up down : ℕ → ℕ → ℕ) (divisor : ℕ) (w : Wave) (n by r : ℕ) (b : Bool) (e : by ≡ offset_size divisor w) (q : b ≡ is_raising w.place) where
  pub wavered_up : b ≡ true → r ≡ up n by → r ≡ wavered up down divisor w n
  unfolding wavered
  wavered_up t h = rw (← q, t, ← e) h

  pub wavered_down : b ≡ false → r ≡ down n by → r ≡ wavered up down divisor w n
  unfolding wavered
  wavered_down t h = rw (← q, t, ← e) h
