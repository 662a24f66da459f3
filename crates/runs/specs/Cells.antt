-- Cells of numbers: what scratch cells hold, one number a frame; and frames woven of two of them, left first. For any number of frames.
-- Assumes nothing.
use Rattle.std.specs.Prelude.{◌≡◌, List, ℕ, ◌+◌, ◌*◌, ◌<◌, ◌≤◌, length, get_or, ℤ, pos, ◌+ℤ◌}
use Rattle.std.specs.Int.Signed.{mag}
use Rattle.runs.specs.Lines.{half16}

-- ---- scratch cells
-- the first n cells hold f 0, .., f (n - 1)
abbrev pub Holds : (ℕ → ℤ) → ℕ → List ℤ → Type 0
Holds f n cells = (j : ℕ) → j < n → get_or cells j (pos 0) ≡ f j

-- the number in cell j
abbrev pub number_at : List ℤ → ℕ → ℤ
number_at cells j = get_or cells j (pos 0)

-- the first n numbers are signed ones of 16 bits
abbrev pub Narrow : List ℤ → ℕ → Type 0
Narrow cells n = (j : ℕ) → j < n → mag (number_at cells j) < half16

-- the sum of the numbers in the cells j of two
unfoldable pub sum_at : List ℤ → List ℤ → ℕ → ℤ
sum_at to from j = number_at to j +ℤ number_at from j

-- each of the first n cells has room for what is added to it
pub record Roomy (from to : List ℤ) (n : ℕ) : Type 0 where
  pub bound : ℕ
  pub small : (j : ℕ) → j < n → mag (number_at from j) < bound
  pub room : (j : ℕ) → j < n → mag (number_at to j) + bound < half16

-- ---- frames
-- the cells of a side are every second one
abbrev pub stride : ℕ
stride = 2

-- n frames from frame `at` on: frame `at + j` is l j to the left and r j to the right, and every other cell is as it was
pub record Woven (l r : ℕ → ℤ) (at n : ℕ) (old new : List ℤ) : Type 0 where
  pub same : length new ≡ length old
  pub left : (j : ℕ) → j < n → number_at new (stride * (at + j)) ≡ l j
  pub right : (j : ℕ) → j < n → number_at new (stride * (at + j) + 1) ≡ r j
  pub before : (i : ℕ) → i < stride * at → number_at new i ≡ number_at old i
  pub after : (i : ℕ) → stride * (at + n) ≤ i → number_at new i ≡ number_at old i
