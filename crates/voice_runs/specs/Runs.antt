-- Runs: a voice's next frames as a line through its sample's bytes, up to its sample's end; and what is written of them into cells.
-- Assumes nothing.
use Rattle.std.specs.Prelude.{◌≡◌, Bool, false, cond, List, ℕ, suc, ◌+◌, ◌-◌, ◌*◌, ◌/◌, ◌%◌, ◌≤◌, ◌<◌, min, ltb, nat_lt, ◌||◌, get_or, drop, ℤ, pos, ◌*ℤ◌}
use Rattle.runs.specs.Lines.{half64, byte_of}
use Rattle.runs.specs.Written.{Written}
use Rattle.runs.specs.Inverses.{most_frames, inverse_of}
use Rattle.reader.specs.declared.Extent.{Extent}
use Rattle.reader.specs.Samples.{Sample}
use Rattle.voice.specs.declared.Voice.{Voice}
use Rattle.voice.specs.Voice.{silent_of, signed_of, placed_at, growth_of, step_of, fractions}
use Rattle.voice.specs.Modules.{sample_with}
use Rattle.voice.specs.Frames.{steps_of, gives_at}
use Rattle.voice_runs.specs.declared.line.Pace.{Pace}

-- ---- a line
-- the byte that a line reads in frame j, as signed
unfoldable pub sound_at : List ℕ → ℕ → ℕ → ℕ → ℤ
sound_at bytes from growth j = signed_of (get_or bytes (byte_of from growth j) 0)

-- r frames, of those that are left and at least one, each begins below limit
pub record Span (from growth limit left r : ℕ) : Type 0 where
  pub some : 0 < r
  pub most : r ≤ left
  pub below : (j : ℕ) → j < r → from + j * growth < limit

-- where the run that begins at index ends: bytes 0 and 1, which read as 0, are a run of their own
unfoldable pub limit_of : ℕ → ℕ → ℕ
limit_of index end = cond (ltb index 2) (cond (ltb end 2) end 2) end

-- a run takes at most so many bytes, so that its frames are counted by an inverse
abbrev pub longest : ℕ
longest = 1024

-- how many bytes it takes
unfoldable pub ahead_of : ℕ → ℕ → ℕ
ahead_of index end = min (limit_of index end - index) longest

-- what a byte weighs in a run: nothing where the run is quiet
unfoldable pub weight_of : Bool → ℕ → ℕ
weight_of quiet weight = cond quiet 0 weight

-- the voice after a run whose last frame was so far past its index
unfoldable pub land_of : Sample → ℕ → Voice → Voice
land_of s last v = cond (silent_of v) v (step_of s (placed_at (v.index + last / fractions) (last % fractions) v))

-- a voice's next frames are a line through its sample's bytes, from its index on
pub record Follows (x : Extent) (v : Voice) (quiet : Bool) (growth count : ℕ) : Type 0 where
  pub some : 0 < count
  pub slow : growth < fractions
  pub low : v.fraction + count * growth < half64
  pub part : v.fraction < fractions
  pub sounds : quiet ≡ false → (silent_of v ≡ false) × (growth ≡ growth_of v.period)
  pub inside : (n : ℕ) → x.end ≤ n → 0 < n → (j : ℕ) → j < count → v.index + byte_of v.fraction growth j < n
  pub before : (j : ℕ) → j < count → silent_of v ≡ false → v.index + byte_of v.fraction growth j < x.end
  pub gives : (bytes : List ℕ) (j : ℕ) → j < count → gives_at (sample_with bytes x) v j ≡ sound_at (drop v.index bytes) v.fraction growth j *ℤ pos (weight_of quiet v.volume)
  pub after : (bytes : List ℕ) (j : ℕ) → j < count → steps_of (sample_with bytes x) (suc j) v ≡ land_of (sample_with bytes x) (v.fraction + j * growth) v

-- a voice's next run is quiet, each of its bytes counting as 0, where the voice is silent and in bytes 0 and 1
unfoldable pub quiet_of : Voice → Bool
quiet_of v = silent_of v || nat_lt v.index 2

-- by how much the run's line grows
unfoldable pub line_growth : Voice → Pace → ℕ
line_growth v p = cond (silent_of v) 0 p.growth

-- ---- what is written of it
-- a byte read as signed, times a weight
unfoldable pub product_of : ℕ → ℕ → ℤ
product_of weight b = signed_of b *ℤ pos weight

-- what a line reads in frame j, at a weight
unfoldable pub weighed_at : ℕ → List ℕ → ℕ → ℕ → ℕ → ℤ
weighed_at weight bytes from growth j = product_of weight (get_or bytes (byte_of from growth j) 0)

-- frames are spread in pieces of at most so many
abbrev pub piece : ℕ
piece = 1024

-- behind a piece, cells that may be written over
abbrev pub spare : ℕ
spare = most_frames

-- a voice's pace: how much its fraction grows in a frame, and the inverse of that
pub record Paced (period : ℕ) (p : Pace) : Type 0 where
  pub growth : p.growth ≡ growth_of period
  pub slow : p.growth < fractions
  pub inverse : p.inverse ≡ inverse_of p.growth

-- what a voice gives in frame k, so many times
unfoldable pub one_at : ℕ → Sample → Voice → ℕ → ℤ
one_at times s v k = gives_at s v k *ℤ pos times

-- n frames of one voice at a weight, of those that are left and at least one, written into the cells from `at` on
pub record Spread (a : List ℕ) (x : Extent) (v : Voice) (weight left at : ℕ) (old new : List ℤ) (v' : Voice) (n : ℕ) : Type 0 where
  pub some : 0 < n
  pub most : n ≤ left
  pub moved : v' ≡ steps_of (sample_with a x) n v
  pub numbers : (times : ℕ) → weight ≡ v.volume * times → Written (one_at times (sample_with a x) v) at n old new
