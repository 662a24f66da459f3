-- A mix: which voices can be mixed from it, what its sides hold, and the voices after it.
-- Assumes nothing.
use Rattle.std.specs.Prelude.{List, ℕ, ℤ}
use Rattle.reader.specs.Samples.{Sample}
use Rattle.voice.specs.declared.Voice.{Voice}
use Rattle.mixing.specs.declared.side.Mix.{Mix}
use Rattle.mixing.specs.Sides.{cut_of, extent_at, Sounding, Pacing, side_at, sided_of, later_of}

-- voices that are legal beside their samples, which lie in the file, and whose paces are the mix's
pub record Mixable (m : Mix) (vs : List Voice) : Type 0 where
  pub sounding : Sounding m.file.now m.extents vs m.channels
  pub paced : Pacing vs m.paces m.channels

-- the sample of channel i
abbrev pub sample_of : Mix → ℕ → Sample
sample_of m i = cut_of m.file.now (extent_at m.extents i)

-- the side's number in frame k
abbrev pub side_in : Mix → List Voice → ℕ → ℕ → ℤ
side_in m vs side = side_at m.file.now m.extents vs m.times side m.channels

-- the voices after n frames of the side
abbrev pub sided_in : Mix → List Voice → ℕ → ℕ → List Voice
sided_in m vs n side = sided_of m.file.now m.extents vs n side m.channels

-- and of both sides
abbrev pub later_in : Mix → List Voice → ℕ → List Voice
later_in m vs n = later_of m.file.now m.extents vs n m.channels
