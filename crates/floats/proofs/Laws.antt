-- Laws for the proofs of the numbers of a frame.
-- Assumes nothing.
use mathlib.Core.Path.{◌≡◌, sym, ap, ap₂, ◌∙◌, subst}
use Prim.Native.Nat.{◌^◌, ◌<◌}
use native.Mathlib.Omega.{arith}
use lib.Dec.{T, lt→ltb, le→leb, lit≤, lit<}
use lib.IntN.{ℤ, pos, negsuc, ◌+ℤ◌}
use lib.Signed.{mag}
use lib.Ieee.{binary32, div, of_int, of_bits, to_bits, in_float}
use mir.Syntax.{w16, w32}
use mir.Val.{SFits, to_z, of_z}
use mir.ValLaws.{to_z-of_z}
use Rattle.laws.specs.Signed.{back, mag-add, sfits_below, fits-as, reads_as}
use Rattle.floats.specs.Exact.{exactly, Exact}
use Rattle.floats.specs.Quotient.{exactly_is_exact, by_32768, by_65536, small_size}

-- ---- left and right

module _ (x : ℤ) (f : SFits w16 x) where
  pub side_is : div binary32 (of_int binary32 (back x)) (of_bits binary32 1191182336) ≡ exactly x 15
  side_is = ap (λ (z : ℤ). div binary32 (of_int binary32 z) (of_bits binary32 1191182336)) (to_z-of_z w16 x f) ∙ by_32768 x (small_size x f.sfits (lit< tt))

  pub side_exact : Exact x 15 (to_bits binary32 (div binary32 (of_int binary32 (back x)) (of_bits binary32 1191182336)))
  side_exact = rw side_is (exactly_is_exact x 15 (small_size x f.sfits (lit< tt)) (lit≤ tt))

-- ---- mono
-- cast to 32 bits
abbrev wide : ℤ → ℤ
wide z = to_z w32 (of_z w32 (back z))

fits-wide : (z : ℤ) → SFits w16 z → SFits w32 z
fits-wide z f = sfits_below w32 f.sfits tt

pub narrow_fits : (z : ℤ) → SFits w16 z → SFits w32 (back z)
narrow_fits z f = fits-as w32 (to_z-of_z w16 z f) (fits-wide z f)

wide_is : (z : ℤ) → SFits w16 z → wide z ≡ z
wide_is z f = reads_as w32 (to_z-of_z w16 z f) (fits-wide z f)

in-float : (z : ℤ) → mag z < 2 ^ 16 → T (in_float binary32 z)
unfolding in_float
in-float (pos n) h = le→leb n (2 ^ 24) (omega arith)
in-float (negsuc n) h = lt→ltb n (2 ^ 24) (omega arith)

module _ (left right : ℤ) (l : SFits w16 left) (r : SFits w16 right) where
  sum_below : mag (left +ℤ right) < 2 ^ 16
  sum_below = mag-add left right l.sfits r.sfits

  sum_same : wide left +ℤ wide right ≡ left +ℤ right
  sum_same = ap₂ ◌+ℤ◌ (wide_is left l) (wide_is right r)

  pub sum_fits : SFits w32 (wide left +ℤ wide right)
  sum_fits = fits-as w32 sum_same (sfits_below w32 sum_below tt)

  read : to_z w32 (of_z w32 (wide left +ℤ wide right)) ≡ left +ℤ right
  read = reads_as w32 sum_same (sfits_below w32 sum_below tt)

  pub sum_in_float : T (in_float binary32 (to_z w32 (of_z w32 (wide left +ℤ wide right))))
  sum_in_float = subst (λ (z : ℤ). T (in_float binary32 z)) (sym read) (in-float (left +ℤ right) sum_below)

  pub mono_is : div binary32 (of_int binary32 (to_z w32 (of_z w32 (wide left +ℤ wide right)))) (of_bits binary32 1199570944) ≡ exactly (left +ℤ right) 16
  mono_is = ap (λ (z : ℤ). div binary32 (of_int binary32 z) (of_bits binary32 1199570944)) read ∙ by_65536 (left +ℤ right) (small_size (left +ℤ right) sum_below (lit< tt))

  pub mono_exact : Exact (left +ℤ right) 16 (to_bits binary32 (div binary32 (of_int binary32 (to_z w32 (of_z w32 (wide left +ℤ wide right)))) (of_bits binary32 1199570944)))
  mono_exact = rw mono_is (exactly_is_exact (left +ℤ right) 16 (small_size (left +ℤ right) sum_below (lit< tt)) (lit≤ tt))
