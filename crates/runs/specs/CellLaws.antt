-- Laws of cells: cells cleared; and frames woven one stretch after the other.
-- Assumes nothing.
use Rattle.std.specs.Prelude.{◌≡◌, refl, Bool, true, false, List, ◌++◌, ℕ, zero, suc, ◌+◌, ◌-◌, ◌*◌, ◌≤◌, ◌<◌, ltb, drop, replicate, ℤ, pos}
use Rattle.std.proofs.Common.{sym, ap, ◌∙◌, arith, below_none, ltb-true, ltb-false}
use Rattle.runs.specs.Cells.{Holds, number_at, stride, Woven}

-- ---- cells cleared
zeros : (n : ℕ) (rest : List ℤ) → Holds (λ j. pos 0) n (replicate n (pos 0) ++ rest)
zeros zero rest j h = absurd (omega arith)
zeros (suc n) rest zero h = refl
zeros (suc n) rest (suc j) h = zeros n rest j (omega arith)

pub cleared : (n : ℕ) (old new : List ℤ) → new ≡ replicate n (pos 0) ++ drop n old → Holds (λ j. pos 0) n new
cleared n old new e j h = ap (λ cells. number_at cells j) e ∙ zeros n (drop n old) j h

-- ---- frames woven
pub woven_none : (l r : ℕ → ℤ) (at : ℕ) (old : List ℤ) → Woven l r at 0 old old
woven_none l r at old = record { same = refl; left = below_none _; right = below_none _; before = λ i h. refl; after = λ i h. refl }

-- by numbers equal one by one
pub woven_as : (l r l' r' : ℕ → ℤ) (at n : ℕ) (old new : List ℤ) → ((j : ℕ) → j < n → l j ≡ l' j) → ((j : ℕ) → j < n → r j ≡ r' j) → Woven l r at n old new → Woven l' r' at n old new
woven_as l r l' r' at n old new p q m =
    record {
      same = m.same;
      left = λ j h. m.left j h ∙ p j h;
      right = λ j h. m.right j h ∙ q j h;
      before = m.before;
      after = m.after;
    }

-- n more frames behind the first k
module _ (l r l' r' : ℕ → ℤ) (k n : ℕ) (old mid new : List ℤ) (p : (j : ℕ) → j < n → l' j ≡ l (k + j)) (q : (j : ℕ) → j < n → r' j ≡ r (k + j)) (a : Woven l r 0 k old mid) (b : Woven l' r' k n mid new) where
  -- one side of it, d cells into the frame
  side : (f f' : ℕ → ℤ) (d : ℕ) → d < 2 → ((j : ℕ) → j < k → number_at mid (stride * (0 + j) + d) ≡ f j) → ((j : ℕ) → j < n → number_at new (stride * (k + j) + d) ≡ f' j) → ((j : ℕ) → j < n → f' j ≡ f (k + j)) → (j : ℕ) → j < k + n → number_at new (stride * (0 + j) + d) ≡ f j
  side f f' d two x y e j h = go (ltb j k) refl
    where
      go : (t : Bool) → ltb j k ≡ t → number_at new (stride * (0 + j) + d) ≡ f j
      go true t = let c : j < k = ltb-true j k t in b.before (stride * (0 + j) + d) (omega arith) ∙ x j c
      go false t =
          let c : k ≤ j = ltb-false j k t in
          let here : k + (j - k) ≡ j = omega arith in
          let cell : stride * (0 + j) + d ≡ stride * (k + (j - k)) + d = omega arith in
          ap (number_at new) cell ∙ y (j - k) (omega arith) ∙ e (j - k) (omega arith) ∙ ap f here

  pub woven_more : Woven l r 0 (k + n) old new
  woven_more =
      record {
        same = b.same ∙ a.same;
        left = λ j h. ap (number_at new) (plain (stride * (0 + j))) ∙ side l l' 0 (omega arith) (λ i g. ap (number_at mid) (sym (plain (stride * (0 + i)))) ∙ a.left i g) (λ i g. ap (number_at new) (sym (plain (stride * (k + i)))) ∙ b.left i g) p j h;
        right = side r r' 1 (omega arith) a.right b.right q;
        before = λ i h. absurd (omega arith);
        after = λ i h. b.after i (omega arith) ∙ a.after i (omega arith);
      }
    where
      plain : (i : ℕ) → i ≡ i + 0
      plain i = omega arith
