-- How many numbers frames have, and a list of frames taken apart.
-- Assumes nothing.
use Rattle.std.specs.Prelude.{◌≡◌, Bool, true, false, cond, ◌&&◌, List, [], ◌∷◌, ◌++◌, ℕ, zero, suc, ◌+◌, ◌*◌, ◌≤◌, ℤ, ◌+ℤ◌, length, Float}
use Rattle.std.proofs.Math.Path.{refl}
use Rattle.std.proofs.Common.{sym, ap, ◌∙◌, append_assoc, mul-zero, mul-suc, add_comm, arith, length-append}
use Rattle.floats.specs.declared.Frame.TheVariants.{Silence, Mono, Stereo}
use Rattle.floats.specs.declared.Pair.{Pair}
use Rattle.floats.specs.Exact.{exactly}
use Rattle.floats.specs.Frames.{is_zero, delivered, numbers_in, floats_of, pair_of, last_of}

-- as many numbers as the page has sides
pub numbers_length : (sides : ℕ) (left right : ℤ) → 1 ≤ sides → sides ≤ 2 → length (numbers_in sides (delivered sides left right)) ≡ sides
unfolding delivered
numbers_length zero left right h k = absurd (omega arith)
numbers_length (suc zero) left right h k = go (is_zero left && is_zero right)
  where
    go : (b : Bool) → length (numbers_in 1 (cond b Silence (Mono (exactly (left +ℤ right) 16)))) ≡ 1
    go true = refl
    go false = refl
numbers_length (suc (suc zero)) left right h k = go (is_zero left && is_zero right)
  where
    go : (b : Bool) → length (numbers_in 2 (cond b Silence (Stereo (exactly left 15) (exactly right 15)))) ≡ 2
    go true = refl
    go false = refl
numbers_length (suc (suc (suc n))) left right h k = absurd (omega arith)

-- a frame, and then more
module _ (sides : ℕ) (left right : ℤ) (rest : List ℤ) where
  pub floats_more : floats_of sides (left ∷ right ∷ rest) ≡ numbers_in sides (delivered sides left right) ++ floats_of sides rest
  unfolding floats_of
  floats_more = refl

  pub last_more : (tick : ℕ) (last : Pair) → last_of tick last (left ∷ right ∷ rest) ≡ last_of tick (pair_of tick left right) rest
  unfolding last_of
  last_more tick last = refl

  pub floats_long : 1 ≤ sides → sides ≤ 2 → length (floats_of sides (left ∷ right ∷ rest)) ≡ sides + length (floats_of sides rest)
  floats_long h k = ap length floats_more ∙ length-append (numbers_in sides (delivered sides left right)) (floats_of sides rest) ∙ ap (λ (n : ℕ). n + length (floats_of sides rest)) (numbers_length sides left right h k)

-- no whole frame
pub floats_none : (sides : ℕ) (xs : List ℤ) → length xs ≤ 1 → floats_of sides xs ≡ []
unfolding floats_of
floats_none sides [] h = refl
floats_none sides (x ∷ []) h = refl
floats_none sides (x ∷ y ∷ xs) h = absurd (omega arith)

pub last_none : (tick : ℕ) (last : Pair) (xs : List ℤ) → length xs ≤ 1 → last_of tick last xs ≡ last
unfolding last_of
last_none tick last [] h = refl
last_none tick last (x ∷ []) h = refl
last_none tick last (x ∷ y ∷ xs) h = absurd (omega arith)

-- the fitting rule counts numbers: n frames take n times the sides
pub floats_size : (sides : ℕ) → 1 ≤ sides → sides ≤ 2 → (n : ℕ) (xs : List ℤ) → length xs ≡ 2 * n → length (floats_of sides xs) ≡ sides * n
unfolding floats_of
floats_size sides l h zero [] e = sym (mul-zero sides)
floats_size sides l h (suc n) [] e = absurd (omega arith)
floats_size sides l h n (x ∷ []) e = absurd (omega arith)
floats_size sides l h zero (x ∷ y ∷ xs) e = absurd (omega arith)
floats_size sides l h (suc n) (x ∷ y ∷ xs) e = floats_long sides x y xs l h ∙ ap (λ (k : ℕ). sides + k) (floats_size sides l h n xs (omega arith)) ∙ add_comm sides (sides * n) ∙ sym (mul-suc sides n)

-- floats of a list of whole frames, and then of another
pub floats_append : (sides n : ℕ) (xs ys : List ℤ) → length xs ≡ 2 * n → floats_of sides (xs ++ ys) ≡ floats_of sides xs ++ floats_of sides ys
unfolding floats_of
floats_append sides n [] ys e = refl
floats_append sides n (x ∷ []) ys e = absurd (omega arith)
floats_append sides zero (x ∷ y ∷ xs) ys e = absurd (omega arith)
floats_append sides (suc n) (x ∷ y ∷ xs) ys e =
    ap (λ (zs : List Float). numbers_in sides (delivered sides x y) ++ zs) (floats_append sides n xs ys (omega arith))
    ∙ sym (append_assoc (numbers_in sides (delivered sides x y)) (floats_of sides xs) (floats_of sides ys))
