-- Numbers written into neighbouring cells, in one go or in several, each of which may write over the cells behind its numbers.
-- Assumes nothing.
use Rattle.std.specs.Prelude.{◌≡◌, refl, Bool, true, false, List, ℕ, ◌+◌, ◌-◌, ◌≤◌, ◌<◌, ltb, length, get_or, replicate, set, ℤ, pos}
use Rattle.std.proofs.Common.{sym, ap, ◌∙◌, rules, arith, length-set, get_or-set_same, get_or-set_other, ltb-true, ltb-false}
use Rattle.std.proofs.lemmas.List.{places, get_or-replicate}
use borrow.Rule.Slice.PartMut.{put_mid, mid_of}
use Rattle.runs.specs.Cells.{Holds}

-- how many cells are filled together
abbrev pub together : ℕ
together = 8

-- n cells from `at` on hold f 0, f 1, ..; those before them are as they were, and those behind them anything
pub record Written (f : ℕ → ℤ) (at n : ℕ) (old new : List ℤ) : Type 0 where
  pub long : length new ≡ length old
  pub before : (j : ℕ) → j < at → get_or new j (pos 0) ≡ get_or old j (pos 0)
  pub cells : (j : ℕ) → j < n → get_or new (at + j) (pos 0) ≡ f j

-- from the first cell on
pub written_holds : (f : ℕ → ℤ) (n : ℕ) (old new : List ℤ) → Written f 0 n old new → Holds f n new
written_holds f n old new m j h = let e : 0 + j ≡ j = omega arith in ap (λ i. get_or new i (pos 0)) (sym e) ∙ m.cells j h

pub written_none : (f : ℕ → ℤ) (at : ℕ) (old : List ℤ) → Written f at 0 old old
written_none f at old = record { long = refl; before = λ j _. refl; cells = λ j h. absurd (omega arith) }

-- fewer of them, as another function has them
pub written_as : (f g : ℕ → ℤ) (at n k : ℕ) (old new : List ℤ) → Written g at n old new → k ≤ n → ((j : ℕ) → j < k → g j ≡ f j) → Written f at k old new
written_as f g at n k old new m h e = record { long = m.long; before = m.before; cells = λ j l. m.cells j (omega arith) ∙ e j l }

-- into the part of k cells from `at` on
pub written_part : (f : ℕ → ℤ) (at k n : ℕ) (old part : List ℤ) → at + k ≤ length old → n ≤ k → Written f 0 n (mid_of at k old) part → Written f at n old (put_mid at k old part)
written_part f at k n old part h l m =
    record {
      long = grind (arith, places, m.long);
      before = λ j i. grind (arith, places, m.long);
      cells = λ j i. grind (arith, places, m.long, m.cells j i);
    }

-- n cells from `at` on, filled with y
pub written_fill : (y : ℤ) (at n : ℕ) (old part : List ℤ) → at + n ≤ length old → part ≡ replicate n y → Written (λ _. y) at n old (put_mid at n old part)
written_fill y at n old part h e =
    record {
      long = rw e (search (rules, places));
      before = λ j l. rw e (grind (arith, places));
      cells = λ j l. rw e (grind (arith, places, get_or-replicate));
    }

module _ (f : ℕ → ℤ) (at k : ℕ) (old mid : List ℤ) (m : Written f at k old mid) where
  -- up to n, by a second go from the k-th on
  pub written_more : (g : ℕ → ℤ) (r n : ℕ) (new : List ℤ) → Written g (at + k) r mid new → n ≤ k + r → ((j : ℕ) → k ≤ j → j < n → g (j - k) ≡ f j) → Written f at n old new
  written_more g r n new w h e =
      record {
        long = w.long ∙ m.long;
        before = λ j l. w.before j (omega arith) ∙ m.before j l;
        cells = λ j l. go j l (ltb j k) refl;
      }
    where
      go : (j : ℕ) → j < n → (t : Bool) → ltb j k ≡ t → get_or new (at + j) (pos 0) ≡ f j
      go j l true t = let b : j < k = ltb-true j k t in w.before (at + j) (omega arith) ∙ m.cells j b
      go j l false t =
          let b : k ≤ j = ltb-false j k t in
          let i : at + k + (j - k) ≡ at + j = omega arith in
          ap (λ i. get_or new i (pos 0)) (sym i) ∙ w.cells (j - k) (omega arith) ∙ e j b l

  -- one more
  pub written_one : (y : ℤ) → at + k < length mid → y ≡ f k → Written f at (k + 1) old (set mid (at + k) y)
  written_one y h e =
      record {
        long = length-set mid (at + k) y ∙ m.long;
        before = λ j l. get_or-set_other mid (at + k) j y (pos 0) (omega arith) ∙ m.before j l;
        cells = λ j l. go j l (ltb j k) refl;
      }
    where
      go : (j : ℕ) → j < k + 1 → (t : Bool) → ltb j k ≡ t → get_or (set mid (at + k) y) (at + j) (pos 0) ≡ f j
      go j l true t = let b : j < k = ltb-true j k t in get_or-set_other mid (at + k) (at + j) y (pos 0) (omega arith) ∙ m.cells j b
      go j l false t =
          let b : k ≤ j = ltb-false j k t in
          let i : j ≡ k = omega arith in
          rw i (get_or-set_same mid (at + k) y (pos 0) h ∙ e)
