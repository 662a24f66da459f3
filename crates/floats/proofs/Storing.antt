-- Laws for the proofs of a delivered frame and of its store.
-- Assumes nothing.
use mathlib.Core.Path.{◌≡◌, refl, sym, ◌∙◌}
use mathlib.Core.Bool.{true, false, ◌&&◌}
use Prim.Native.Nat.{ℕ, suc}
use native.Mathlib.Omega.{arith}
use lib.Dec.{eqb}
use lib.IntN.{ℤ, pos, negsuc, ◌+ℤ◌}
use lib.Ieee.{Float}
use mir.Syntax.{w16}
use mir.Val.{SFits, of_z}
use mir.ValLaws.{to_z-of_z}
use borrow.Author.Tests.{ne_eqb}
use Rattle.std.proofs.Common.{◌⊎◌, inl, inr}
use Rattle.laws.specs.Signed.{back}
use Rattle.floats.specs.declared.Frame.{Frame}
use Rattle.floats.specs.declared.Frame.TheVariants.{Silence, Mono, Stereo}
use Rattle.floats.specs.Exact.{exactly}
use Rattle.floats.specs.declared.Sides.{Sides}
use Rattle.floats.specs.declared.Sides.TheVariants.{One, Two}
use Rattle.floats.specs.Asked.{count_of}
use Rattle.floats.specs.Frames.{is_zero, delivered}

-- ---- a test for zero, on 16 bits
pub zero_test : (x : ℤ) → SFits w16 x → eqb (of_z w16 x) 0 ≡ is_zero x
zero_test (pos n) f = refl
zero_test (negsuc n) f = ne_eqb (of_z w16 (negsuc n)) 0 (λ e. omega (arith, f.sfits)) ∙ sym (ne_eqb (suc n) 0 (λ e. omega arith))

-- ---- the three cases
module _ (left right : ℤ) (l : SFits w16 left) (r : SFits w16 right) where
  silent : of_z w16 left ≡ 0 → of_z w16 right ≡ 0 → is_zero left && is_zero right ≡ true
  silent p q = rw (← zero_test left l, ← zero_test right r, p, q)

  heard : (of_z w16 left ≡ 0 × (of_z w16 right ≡ 0 → ⊥)) ⊎ (of_z w16 left ≡ 0 → ⊥) → is_zero left && is_zero right ≡ false
  heard (inl (p, q)) = rw (← zero_test left l, ← zero_test right r, p, ne_eqb (of_z w16 right) 0 q)
  heard (inr p) = rw (← zero_test left l, ne_eqb (of_z w16 left) 0 p)

  pub gives_silence : (sides : ℕ) → of_z w16 left ≡ 0 → of_z w16 right ≡ 0 → Silence ≡ delivered sides left right
  unfolding delivered
  gives_silence sides p q = rw (silent p q)

  -- a number of sides that is not one is as good as two
  pub gives_two : (sides : ℕ) → (sides ≡ 1 → ⊥) → (frame : Frame) → frame ≡ delivered 2 (back left) (back right) → frame ≡ delivered sides left right
  unfolding delivered
  gives_two sides n frame e = rw (e, ne_eqb sides 1 n, to_z-of_z w16 left l, to_z-of_z w16 right r)

  module _ (h : (of_z w16 left ≡ 0 × (of_z w16 right ≡ 0 → ⊥)) ⊎ (of_z w16 left ≡ 0 → ⊥)) (sides : Sides) where
    pub gives_mono : (x : Float) → sides ≡ One → x ≡ exactly (back left +ℤ back right) 16 → Mono x ≡ delivered (count_of sides) left right
    unfolding delivered
    gives_mono x s k = rw (heard h, s, k, to_z-of_z w16 left l, to_z-of_z w16 right r)

    pub gives_stereo : (x y : Float) → sides ≡ Two → x ≡ exactly (back left) 15 → y ≡ exactly (back right) 15 → Stereo x y ≡ delivered (count_of sides) left right
    unfolding delivered
    gives_stereo x y s j k = rw (heard h, s, j, k, to_z-of_z w16 left l, to_z-of_z w16 right r)
