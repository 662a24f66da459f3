-- Loops that write cells part after part behind a front (`Written`). Laws over plain variables.
-- Assumes nothing.
use Prim.Native.Nat.{ℕ, suc, ◌+◌, ◌*◌, ◌≤◌, ◌<◌}
use Rattle.std.specs.Prelude.{◌≡◌, List, ◌++◌, take, drop}
use Rattle.std.proofs.Common.{sym, ◌∙◌, append-nil, append_assoc, add-zero, mul-zero, add-one, arith, length-append, take_all, take_at, length-take-le}
use Rattle.std.proofs.Math.Path.{ap}
use Rattle.std.proofs.Math.Nat.{mul-suc, mul-le-mul_left}
use Rattle.std.proofs.Math.ListN.{length}
use Rattle.std.proofs.lemmas.List.Edits.{sets, sets-eq}
use Rattle.std.proofs.Math.Seq.{length-sets}
use Rattle.cells.specs.Cells.{joined}

-- ---- part after part
-- the cells before the end of a run that was written
pub take-sets : (xs l : List ℕ) (at : ℕ) → at + length xs ≤ length l → take (at + length xs) (sets l at xs) ≡ take at l ++ xs
take-sets xs l at h =
    rw (sets-eq xs l at h) (take_at (take at l ++ xs) (drop (at + length xs) l) (at + length xs) (length-append (take at l) xs ∙ ap (λ (n : ℕ). n + length xs) (length-take-le at l (omega arith))))

-- the first i of n parts of k cells are written, behind what stood before place s
pub record Written (s k n : ℕ) (f : ℕ → List ℕ) (cells₀ cells : List ℕ) (i : ℕ) : Type 0 where
  pub few : i ≤ n
  pub long : length cells ≡ s + k * n
  pub done : take (s + k * i) cells ≡ take s cells₀ ++ joined f i

module _ (s k n : ℕ) (f : ℕ → List ℕ) (cells₀ : List ℕ) where
  pub written_none : length cells₀ ≡ s + k * n → Written s k n f cells₀ cells₀ 0
  unfolding joined
  written_none h = record { few = omega arith; long = h; done = rw (mul-zero, add-zero) (sym (append-nil (take s cells₀))) }

  pub written_more : (old new : List ℕ) (i : ℕ) → length (f i) ≡ k → Written s k n f cells₀ old i → i < n → new ≡ sets old (s + k * i) (f i) → Written s k n f cells₀ new (i + 1)
  unfolding joined
  written_more old new i m w h e =
      let next : s + k * suc i ≡ s + k * i + length (f i) = omega (arith, mul-suc k i, m) in
      let last : k * suc i ≤ k * n = mul-le-mul_left k h in
      record {
        few = omega arith;
        long = ap length e ∙ length-sets old (s + k * i) (f i) ∙ w.long;
        done =
            rw (add-one i, next, e, take-sets (f i) old (s + k * i) (omega (arith, w.long, mul-suc k i, m)), w.done)
            (append_assoc (take s cells₀) (joined f i) (f i));
      }

  pub written_all : (cells : List ℕ) (i : ℕ) → Written s k n f cells₀ cells i → n ≤ i → cells ≡ take s cells₀ ++ joined f n
  written_all cells i w h =
      let e : i ≡ n = omega (arith, w.few) in
      sym (take_all (s + k * n) cells (omega (arith, w.long))) ∙ (rw e at w.done)
