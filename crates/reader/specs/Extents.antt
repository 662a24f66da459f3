-- Samples by their number and by their extent: what the functions that find one ensure, and what the table of extents stands for.
-- Assumes nothing.
use Rattle.std.specs.Prelude.{ℕ, suc, ◌+◌, ◌≤◌, ◌≡◌}
use Rattle.reader.specs.File.{Module}
use Rattle.reader.specs.Samples.{extent_of, Sample, sample_in}
use Rattle.reader.specs.declared.Extent.{Extent}

-- sample number k + 1, which is at most 65,535 words long
pub record Placed (m : Module) (k : ℕ) (x : Extent) : Type 0 where
  pub is : x ≡ extent_of m (suc k)
  pub short : x.to ≤ x.from + 131070

-- the sample of a number, by its own extent
unfoldable pub sample_of : Module → ℕ → Sample
sample_of m k = sample_in m (extent_of m k)
