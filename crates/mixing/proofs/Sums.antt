-- Frames out of their two sides; and frames of channels that give nothing.
-- Assumes nothing.
use mathlib.Core.Path.{◌≡◌, refl, sym, ap, ap₂, subst, ◌∙◌}
use mathlib.Core.List.{List, [], ◌∷◌, ◌++◌}
use Prim.Native.Nat.{ℕ, zero, suc, ◌+◌, ◌*◌, ◌≤◌, ◌<◌}
use native.Mathlib.Nat.{zero-add, suc-add, add-suc}
use native.Mathlib.Omega.{arith}
use lib.Dec.{eqb}
use lib.ListN.{length, drop, replicate}
use lib.Seq.{ext_get_or}
use lib.IntN.{ℤ, pos, ◌+ℤ◌, ◌*ℤ◌, zero-*ℤ}
use Rattle.laws.specs.Choice.{either}
use Rattle.runs.specs.Cells.{number_at, stride, Woven}
use Rattle.voice.specs.Frames.{frame_numbers, side_of, sum_of, frames_from}

-- ---- frames of their two sides, woven
-- the first frame left out of both
later : (l r : ℕ → ℤ) (n : ℕ) (x y a b : ℤ) (old new : List ℤ) → Woven l r 0 (suc n) (x ∷ (y ∷ old)) (a ∷ (b ∷ new)) → Woven (λ j. l (suc j)) (λ j. r (suc j)) 0 n old new
later l r n x y a b old new m =
    record {
      same = omega (arith, m.same);
      left = λ j h. subst (λ i. number_at (a ∷ (b ∷ new)) i ≡ l (suc j)) (place j) (m.left (suc j) (omega arith));
      right = λ j h. subst (λ i. number_at (a ∷ (b ∷ new)) i ≡ r (suc j)) (next j) (m.right (suc j) (omega arith));
      before = λ i h. absurd (omega arith);
      after = λ i h. m.after (suc (suc i)) (omega arith);
    }
  where
    place : (j : ℕ) → stride * (0 + suc j) ≡ suc (suc (stride * (0 + j)))
    place j = omega arith

    next : (j : ℕ) → stride * (0 + suc j) + 1 ≡ suc (suc (stride * (0 + j) + 1))
    next j = omega arith

pub both_sides : (times : ℕ) (g : ℕ → ℕ → ℤ) (c : ℕ) (l r : ℕ → ℤ) (n k : ℕ) → ((j : ℕ) → l j ≡ sum_of (g (j + k)) 0 c *ℤ pos times) → ((j : ℕ) → r j ≡ sum_of (g (j + k)) 1 c *ℤ pos times) → (old new : List ℤ) → frame_numbers * n ≤ length old → Woven l r 0 n old new → new ≡ frames_from times g c k n ++ drop (frame_numbers * n) old
unfolding frames_from
both_sides times g c l r zero k p q old new h m = ext_get_or (pos 0) new old m.same (λ i _. m.after i (omega arith))
both_sides times g c l r (suc n) k p q [] new h m = absurd (omega arith)
both_sides times g c l r (suc n) k p q (x ∷ []) new h m = absurd (omega arith)
both_sides times g c l r (suc n) k p q (x ∷ (y ∷ old)) [] h m = absurd (omega (arith, m.same))
both_sides times g c l r (suc n) k p q (x ∷ (y ∷ old)) (a ∷ []) h m = absurd (omega (arith, m.same))
both_sides times g c l r (suc n) k p q (x ∷ (y ∷ old)) (a ∷ (b ∷ new)) h m =
    let e : frame_numbers * suc n ≡ suc (suc (frame_numbers * n)) = omega arith in
    rw e
    (ap₂ ◌∷◌ (m.left 0 (omega arith) ∙ rw (zero-add k) at (p 0))
    (ap₂ ◌∷◌ (m.right 0 (omega arith) ∙ rw (zero-add k) at (q 0))
    (both_sides times g c (λ j. l (suc j)) (λ j. r (suc j)) n (suc k) (λ j. p (suc j) ∙ on j 0) (λ j. q (suc j) ∙ on j 1) old new (omega arith) (later l r n x y a b old new m))))
  where
    on : (j s : ℕ) → sum_of (g (suc j + k)) s c *ℤ pos times ≡ sum_of (g (j + suc k)) s c *ℤ pos times
    on j s = ap (λ i. sum_of (g i) s c *ℤ pos times) (suc-add j k ∙ sym (add-suc j k))

-- ---- channels that give nothing
sum_none : (g : ℕ → ℤ) (s c : ℕ) → ((i : ℕ) → i < c → g i ≡ pos 0) → sum_of g s c ≡ pos 0
unfolding sum_of
sum_none g s zero h = refl
sum_none g s (suc c) h =
    ap₂ ◌+ℤ◌ (sum_none g s c (λ i l. h i (omega arith))) (either (λ (z : ℤ). z ≡ pos 0) (eqb (side_of c) s) (g c) (pos 0) (λ _. h c (omega arith)) (λ _. refl))

pub none_frames : (times : ℕ) (g : ℕ → ℕ → ℤ) (c : ℕ) → ((k i : ℕ) → i < c → g k i ≡ pos 0) → (k n : ℕ) → frames_from times g c k n ≡ replicate (frame_numbers * n) (pos 0)
unfolding frames_from
none_frames times g c h k zero = refl
none_frames times g c h k (suc n) =
    let two : frame_numbers * suc n ≡ suc (suc (frame_numbers * n)) = omega arith in
    rw two (ap₂ ◌∷◌ (none 0) (ap₂ ◌∷◌ (none 1) (none_frames times g c h (suc k) n)))
  where
    none : (s : ℕ) → sum_of (g k) s c *ℤ pos times ≡ pos 0
    none s = ap (λ (z : ℤ). z *ℤ pos times) (sum_none (g k) s c (h k)) ∙ zero-*ℤ (pos times)
