-- A search over the numbers below a bound that may find none.
-- Assumes nothing.
use Rattle.std.specs.Prelude.{ℕ, ◌<◌, ◌≤◌, ◌≡◌, refl, Bool, true, false, cond, Option, Some, None}
use Rattle.std.proofs.Common.{sym, ◌∙◌, arith}
use Rattle.laws.specs.Ranges.{some, first}
use Rattle.laws.specs.Search.{at_first, some_below}

-- the first number below n at which p holds, if there is one
unfoldable pub found : (ℕ → Bool) → ℕ → Option ℕ
found p n = cond (some p n) (Some (first p n)) None

-- a loop that found it at i, and one that ended
pub found_at : (p : ℕ → Bool) (i n : ℕ) → i < n → some p i ≡ false → p i ≡ true → Some i ≡ found p n
unfolding found
found_at p i n l h q = let e : i ≡ first p n = at_first p i n l h q in rw (some_below p n i e l, e)

pub found_none : (p : ℕ → Bool) (n i : ℕ) → n ≤ i → i ≤ n → some p i ≡ false → None ≡ found p n
unfolding found
found_none p n i l k h = let e : i ≡ n = omega arith in rw (← e, h)

-- what is known of one that was found, and where none was
pub found_some : (p : ℕ → Bool) (n i : ℕ) (r : Option ℕ) → r ≡ found p n → r ≡ Some i → (some p n ≡ true) × (first p n ≡ i)
unfolding found
found_some p n i r e q = go (some p n) refl (sym e ∙ q)
  where
    go : (b : Bool) → some p n ≡ b → cond b (Some (first p n)) None ≡ Some i → (some p n ≡ true) × (first p n ≡ i)
    go true h k =
        let j : first p n ≡ i = cc in
        (h, j)
    go false h k = absurd (cc)

pub found_not : (p : ℕ → Bool) (n : ℕ) (r : Option ℕ) → r ≡ found p n → r ≡ None → some p n ≡ false
unfolding found
found_not p n r e q = go (some p n) refl (sym e ∙ q)
  where
    go : (b : Bool) → some p n ≡ b → cond b (Some (first p n)) None ≡ None → some p n ≡ false
    go true h k = absurd (cc)
    go false h k = h
