-- What the definitions say: the bits of an exact float are one number, silence is where both sides are 0, and the numbers of a delivered frame.
-- Assumes nothing.
use Rattle.std.specs.Prelude.{◌≡◌, Bool, cond, ◌&&◌, [], ◌∷◌, ℕ, zero, suc, ◌*◌, ◌%◌, ◌^◌, ◌≤◌, ◌<◌, ℤ, pos, negsuc, nat_abs, ◌+ℤ◌, Float}
use Rattle.std.proofs.Math.Path.{refl}
use Rattle.std.proofs.Common.{sym, ap, ap₂, ◌∙◌, zero-le, suc-le-suc, mul-le-mul_left, eq-zero-or-pos, pow-suc, mul_assoc, mul-one, zero-lt-suc, inl, inr, pow_mono}
use Rattle.std.proofs.Math.Bool.{true, false, not}
use Rattle.std.proofs.lemmas.Bool.{false≢true}
use Rattle.std.proofs.Math.Nat.{eq_of_mul-eq-mul_right}
use native.Mathlib.Omega.{arith}
use Rattle.std.proofs.Math.Dec.{eqb}
use borrow.Author.Tests.{eqb-true}
use Rattle.floats.specs.declared.Frame.{Frame}
use Rattle.floats.specs.declared.Frame.TheVariants.{Silence, Mono, Stereo}
use Rattle.floats.specs.Exact.{bits_of, exactly, word, sign_of, power_of, significand_of, Shows, Exact}
use Rattle.floats.specs.Frames.{unasked, is_zero, delivered, positive_zero, numbers_in}
use Rattle.laws.specs.Every.{first_of, second_of}

-- ---- the 32 bits of z / 2 ^ k are one number
-- a number has one significand of 24 digits and one power of two
no_more_digits : (u v q : ℕ) → u < 2 ^ 24 → 2 ^ 23 ≤ v → u * 2 ^ 0 ≡ v * 2 ^ suc q → ⊥
no_more_digits u v q h l e =
    let k : 2 ^ 1 ≤ 2 ^ suc q = pow_mono (suc-le-suc zero-le) in
    omega (arith, mul-le-mul_left v k, mul-one u)

one_power : (u v p q : ℕ) → 2 ^ 23 ≤ u → u < 2 ^ 24 → 2 ^ 23 ≤ v → v < 2 ^ 24 → u * 2 ^ p ≡ v * 2 ^ q → (u ≡ v) × (p ≡ q)
one_power u v zero zero a b c d e = (sym (mul-one u) ∙ e ∙ mul-one v, refl)
one_power u v zero (suc q) a b c d e = absurd (no_more_digits u v q b c e)
one_power u v (suc p) zero a b c d e = absurd (no_more_digits v u p d a (sym e))
one_power u v (suc p) (suc q) a b c d e =
    let r =
    one_power u v p q a b c d
    (eq_of_mul-eq-mul_right 2 (zero-lt-suc 1) (u * 2 ^ p) (v * 2 ^ q)
    (mul_assoc u (2 ^ p) 2 ∙ ap (λ (x : ℕ). u * x) (sym (pow-suc 2 p)) ∙ e ∙ ap (λ (x : ℕ). v * x) (pow-suc 2 q) ∙ sym (mul_assoc v (2 ^ q) 2))) in
    (r.0, ap suc r.1)

same_word : (b b' : ℕ) → b < 2 ^ 32 → b' < 2 ^ 32 → sign_of b ≡ sign_of b' → power_of b ≡ power_of b' → significand_of b ≡ significand_of b' → b ≡ b'
same_word b b' h h' s p d =
    let e : word (sign_of b) (power_of b) (b % 2 ^ 23) ≡ word (sign_of b') (power_of b') (b' % 2 ^ 23) = rw (s, p, significand) in
    sym (word_of b h) ∙ e ∙ word_of b' h'
  where
    word_of : (b : ℕ) → b < 2 ^ 32 → word (sign_of b) (power_of b) (b % 2 ^ 23) ≡ b
    word_of b h = omega arith

    significand : b % 2 ^ 23 ≡ b' % 2 ^ 23
    significand = omega arith

shows_one : (z : ℤ) (k b b' : ℕ) → b < 2 ^ 32 → b' < 2 ^ 32 → Shows z k b → Shows z k b' → b ≡ b'
shows_one z k b b' h h' x y =
    let r = one_power (significand_of b) (significand_of b') (power_of b) (power_of b') (omega arith) (omega arith) (omega arith) (omega arith) (x.number ∙ sym y.number) in
    same_word b b' h h' (x.sign ∙ sym y.sign) r.1 r.0

pub exact_one : (z : ℤ) (k b b' : ℕ) → b < 2 ^ 32 → b' < 2 ^ 32 → Exact z k b → Exact z k b' → b ≡ b'
exact_one z k b b' h h' x y =
    elim (eq-zero-or-pos (nat_abs z)) [ inl e ↦ x.zero e ∙ sym (y.zero e) | inr s ↦ shows_one z k b b' h h' (x.other s) (y.other s) ]

-- ---- silence exactly where both sides are 0
pub silent_is : (sides : ℕ) → delivered sides (pos 0) (pos 0) ≡ Silence
unfolding delivered
silent_is sides = refl

abbrev is_silence : Frame → Bool
is_silence Silence = true
is_silence (Mono x) = false
is_silence (Stereo x y) = false

is_zero_lem : (z : ℤ) → is_zero z ≡ true → z ≡ pos 0
is_zero_lem (pos n) e = ap pos (eqb-true n 0 e)
is_zero_lem (negsuc n) e = absurd (suc-zero n (eqb-true (suc n) 0 e))
  where
    suc-zero : (n : ℕ) → suc n ≡ 0 → ⊥
    suc-zero n e = omega arith

pub silent_only : (sides : ℕ) (left right : ℤ) → delivered sides left right ≡ Silence → (left ≡ pos 0) × (right ≡ pos 0)
unfolding delivered
silent_only sides left right e = go (is_zero left && is_zero right) refl (eqb sides 1) e
  where
    go : (b : Bool) → is_zero left && is_zero right ≡ b → (c : Bool) → cond b Silence (cond c (Mono (exactly (left +ℤ right) 16)) (Stereo (exactly left 15) (exactly right 15))) ≡ Silence → (left ≡ pos 0) × (right ≡ pos 0)
    go true p c h = (is_zero_lem left (first_of (is_zero left) (is_zero right) p), is_zero_lem right (second_of (is_zero left) (is_zero right) p))
    go false p true h = absurd (false≢true (ap is_silence h))
    go false p false h = absurd (false≢true (ap is_silence h))

-- ---- the numbers of a delivered frame, silence included
zero_is : (k : ℕ) → positive_zero ≡ exactly (pos 0) k
unfolding exactly bits_of
zero_is k = refl

pub one_number : (left right : ℤ) → numbers_in 1 (delivered 1 left right) ≡ exactly (left +ℤ right) 16 ∷ []
unfolding delivered
one_number left right = go (is_zero left && is_zero right) refl
  where
    go : (b : Bool) → is_zero left && is_zero right ≡ b → numbers_in 1 (cond b Silence (Mono (exactly (left +ℤ right) 16))) ≡ exactly (left +ℤ right) 16 ∷ []
    go true p = ap (λ (x : Float). x ∷ []) (zero_is 16 ∙ sym (ap₂ (λ (l r : ℤ). exactly (l +ℤ r) 16) (is_zero_lem left (first_of (is_zero left) (is_zero right) p)) (is_zero_lem right (second_of (is_zero left) (is_zero right) p))))
    go false p = refl

pub two_numbers : (left right : ℤ) → numbers_in 2 (delivered 2 left right) ≡ exactly left 15 ∷ exactly right 15 ∷ []
unfolding delivered
two_numbers left right = go (is_zero left && is_zero right) refl
  where
    go : (b : Bool) → is_zero left && is_zero right ≡ b → numbers_in 2 (cond b Silence (Stereo (exactly left 15) (exactly right 15))) ≡ exactly left 15 ∷ exactly right 15 ∷ []
    go true p =
        ap₂ (λ (x y : Float). x ∷ y ∷ []) (zero_is 15 ∙ sym (ap (λ (z : ℤ). exactly z 15) (is_zero_lem left (first_of (is_zero left) (is_zero right) p))))
        (zero_is 15 ∙ sym (ap (λ (z : ℤ). exactly z 15) (is_zero_lem right (second_of (is_zero left) (is_zero right) p))))
    go false p = refl

-- ---- the sides that are asked for
-- one or two, where they are not refused
module _ (sides : ℕ) (b : Bool) (e : b ≡ unasked sides) (f : b ≡ false) where
  asked : (1 ≤ sides) × (sides ≤ 2)
  unfolding unasked
  asked = go (eqb sides 1) refl (eqb sides 2) refl (sym e ∙ f)
    where
      go : (x : Bool) → eqb sides 1 ≡ x → (y : Bool) → eqb sides 2 ≡ y → not x && not y ≡ false → (1 ≤ sides) × (sides ≤ 2)
      go true p y q h = let k : sides ≡ 1 = eqb-true sides 1 p in (omega arith, omega arith)
      go false p true q h = let k : sides ≡ 2 = eqb-true sides 2 q in (omega arith, omega arith)
      go false p false q h = absurd (false≢true (sym h))

  pub asked_some : 1 ≤ sides
  asked_some = asked.0

  pub asked_few : sides ≤ 2
  asked_few = asked.1

pub one_or_two : (sides : ℕ) → 1 ≤ sides → sides ≤ 2 → unasked sides ≡ false
unfolding unasked
one_or_two zero l h = absurd (omega arith)
one_or_two (suc zero) l h = refl
one_or_two (suc (suc zero)) l h = refl
one_or_two (suc (suc (suc n))) l h = absurd (omega arith)
