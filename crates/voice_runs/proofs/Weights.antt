-- A byte read as signed, times a weight, which is a volume so many times. Assumes nothing.
use mathlib.Core.Path.{◌≡◌, refl, sym, ap, subst, ◌∙◌}
use mathlib.Core.Bool.{Bool, true, false}
use Prim.Native.Nat.{ℕ, zero, suc, ◌*◌, ◌≤◌, ◌<◌}
use native.Mathlib.Nat.{zero-mul, mul_assoc, mul-le-mul}
use native.Mathlib.Omega.{arith}
use lib.Dec.{lit<}
use lib.IntN.{ℤ, pos, negsuc, neg_ℤ, ◌*ℤ◌, negsuc-*ℤ-pos}
use lib.Signed.{mag}
use mir.Syntax.{w16}
use mir.Val.{SFits, to_z}
use Rattle.laws.specs.Signed.{mag-mul, back, times_fits, times_is}
use Rattle.common.specs.Limits.{loudest}
use Rattle.runs.specs.Lines.{quarter16}
use Rattle.voice.specs.Voice.{signed_of}
use Rattle.voice_runs.specs.Runs.{weight_of, product_of}

-- ---- a signed byte r times a weight
module _ (r : ℤ) (w : ℕ) (small : mag r < 128) (low : w ≤ 128) where
  pub product_small : mag (r *ℤ pos w) < quarter16
  product_small = mag-mul r w {b = 128} small low (lit< tt)

  pub product_fits : SFits w16 (back r *ℤ to_z w16 w)
  product_fits = times_fits r w (omega arith) (omega arith) (omega (arith, product_small))

  product_value : back (back r *ℤ to_z w16 w) ≡ r *ℤ pos w
  product_value = times_is r w (omega arith) (omega arith) (omega (arith, product_small))

  pub product_range : mag (back (back r *ℤ to_z w16 w)) < quarter16
  product_range = subst (λ z. mag z < quarter16) (sym product_value) product_small

  pub product_is : (b : ℕ) → r ≡ signed_of b → back (back r *ℤ to_z w16 w) ≡ product_of w b
  unfolding product_of
  product_is b e = product_value ∙ ap (λ t. t *ℤ pos w) e

pub weight_low : (volume times : ℕ) → volume ≤ loudest → times ≤ 2 → volume * times ≤ 128
weight_low volume times h k = mul-le-mul h k

-- ---- times times
neg_times : (k b : ℕ) → neg_ℤ (pos k) *ℤ pos b ≡ neg_ℤ (pos (k * b))
neg_times zero b = rw (zero-mul b)
neg_times (suc k) b = negsuc-*ℤ-pos k b

pub times_times : (x : ℤ) (a b : ℕ) → (x *ℤ pos a) *ℤ pos b ≡ x *ℤ pos (a * b)
times_times (pos m) a b = ap pos (mul_assoc m a b)
times_times (negsuc m) a b = neg_times (suc m * a) b ∙ ap (λ k. neg_ℤ (pos k)) (mul_assoc (suc m) a b)

pub weight_times : (quiet : Bool) (volume times : ℕ) → weight_of quiet volume * times ≡ weight_of quiet (volume * times)
unfolding weight_of
weight_times true volume times = zero-mul times
weight_times false volume times = refl
