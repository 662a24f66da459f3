-- Lists and tests over the numbers below a bound: what definitions over channels, samples and cells are made of.
-- Assumes nothing.
use Rattle.std.specs.Prelude.{ℕ, zero, suc, ◌+◌, max, cond, Bool, true, false, ◌||◌, ◌&&◌, List, [], ◌∷◌, get_or, ltb}

-- ---- a list of tests, joined as a chain of them is grouped
-- b, and then every one of the list
unfoldable pub all_from : Bool → List Bool → Bool
all_from b [] = b
all_from b (t ∷ ts) = all_from (b && t) ts

unfoldable pub all : List Bool → Bool
all [] = true
all (t ∷ ts) = all_from t ts

-- ---- every number below n
unfoldable pub every : (ℕ → Bool) → ℕ → Bool
every p zero = true
every p (suc n) = every p n && p n

-- whether p holds at a number below n
unfoldable pub some : (ℕ → Bool) → ℕ → Bool
some p zero = false
some p (suc n) = some p n || p n

-- the first number below n at which p holds, or n
unfoldable pub first : (ℕ → Bool) → ℕ → ℕ
first p zero = zero
first p (suc n) = cond (some p n) (first p n) (cond (p n) n (suc n))

-- f 0 + .. + f (n - 1)
unfoldable pub total : (ℕ → ℕ) → ℕ → ℕ
total f zero = zero
total f (suc n) = total f n + f n

-- the largest of f 0, .., f (n - 1), or 0
unfoldable pub largest : (ℕ → ℕ) → ℕ → ℕ
largest f zero = zero
largest f (suc n) = max (largest f n) (f n)

unfoldable pub each : {A : Type 0} → (ℕ → A) → ℕ → List A
each f zero = []
each f (suc n) = f 0 ∷ each (λ i. f (suc i)) n

-- ---- a list of n of which the first c are f's, and the others g's
unfoldable pub partly : {A : Type 0} → (ℕ → A) → ℕ → (ℕ → A) → ℕ → List A
partly f c g n = each (λ i. cond (ltb i c) (f i) (g i)) n

-- the others all d: an array of n of which c are in use
abbrev pub padded : {A : Type 0} → (ℕ → A) → A → ℕ → ℕ → List A
padded f d c n = partly f c (λ i. d) n

-- the others as they are in xs
abbrev pub within : {A : Type 0} → (ℕ → A) → A → ℕ → ℕ → List A → List A
within f d c n xs = partly f c (λ i. get_or xs i d) n
