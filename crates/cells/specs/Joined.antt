-- Lists of k elements each, joined: their parts are the lists, and the parts of a list, joined, are the list.
-- Assumes nothing.
use Prim.Native.Nat.{ℕ, zero, suc, ◌+◌, ◌*◌, ◌≤◌, ◌<◌}
use Rattle.std.specs.Prelude.{◌≡◌, List, ◌++◌, length, take, drop}
use Rattle.std.proofs.Common.{ap, ◌∙◌, eq-or-lt_of_le, mul-suc, mul-le-mul_left, length-drop, take_all, drop_at, take-add}
use Rattle.std.proofs.Math.Logic.{⊎_elim}
use Rattle.std.proofs.Math.Nat.{mul-zero}
use native.Mathlib.Omega.{arith}
use Rattle.std.proofs.Math.ListN.{length-append}
use Rattle.std.proofs.lemmas.List.{take-append-le, drop-append-le}
use Rattle.cells.specs.Cells.{joined}

-- the i-th part of k elements
abbrev pub part_at : {A : Type 0} → ℕ → List A → ℕ → List A
part_at k xs i = take k (drop (k * i) xs)

-- a list's first n parts, joined
pub joined_parts : {A : Type 0} (k : ℕ) (xs : List A) (f : ℕ → List A) (n : ℕ) → ((i : ℕ) → i < n → f i ≡ part_at k xs i) → joined f n ≡ take (k * n) xs
unfolding joined
joined_parts k xs f zero h = rw mul-zero
joined_parts {A} k xs f (suc n) h =
    rw (mul-suc, take-add (k * n) k xs, h n (omega arith)) (ap (λ (ys : List A). ys ++ part_at k xs n) (joined_parts k xs f n (λ i l. h i (omega arith))))

module _ {A : Type 0} (k : ℕ) (f : ℕ → List A) (long : (i : ℕ) → length (f i) ≡ k) where
  pub length-joined : (n : ℕ) → length (joined f n) ≡ k * n
  unfolding joined
  length-joined zero = rw mul-zero
  length-joined (suc n) = rw (mul-suc, length-append (joined f n) (f n), length-joined n, long n)

  part_last : (n : ℕ) → part_at k (joined f n ++ f n) n ≡ f n
  part_last n = rw (drop_at (joined f n) (f n) (k * n) (length-joined n)) (take_all k (f n) (omega (arith, long n)))

  part_before : (n i : ℕ) → i < n → part_at k (joined f n ++ f n) i ≡ part_at k (joined f n) i
  part_before n i h =
      let next : k * suc i ≤ k * n = mul-le-mul_left k h in
      let room : k * i + k ≤ length (joined f n) = omega (arith, length-joined n, mul-suc k i) in
      rw (
        drop-append-le (k * i) (joined f n) (f n) (omega arith),
        take-append-le k (drop (k * i) (joined f n)) (f n) (omega (arith, length-drop (k * i) (joined f n))),
      )

  -- the parts of lists that were joined
  pub joined_at : (n i : ℕ) → i < n → part_at k (joined f n) i ≡ f i
  unfolding joined
  joined_at zero i h = absurd (omega arith)
  joined_at (suc n) i h =
      ⊎_elim (λ (e : suc i ≡ suc n). let q : i ≡ n = omega arith in rw q (part_last n))
      (λ (l : suc i < suc n). part_before n i (omega arith) ∙ joined_at n i (omega arith)) (eq-or-lt_of_le h)
