-- Frames by sides: the channels that sound on a side, what they give, and the voices after it; and the voices told their commands.
-- For any number of channels.
-- Assumes nothing.
use Rattle.std.specs.Prelude.{◌≡◌, Bool, true, false, cond, List, [], ℕ, ◌-◌, ◌≤◌, ◌<◌, eqb, length, get_or, take, drop, ℤ, pos, ◌*ℤ◌}
use Rattle.laws.specs.Ranges.{within}
use Rattle.laws.specs.Each.{Parting}
use Rattle.common.specs.Limits.{width}
use Rattle.runs.specs.Cells.{Holds}
use Rattle.ticks.specs.declared.Command.{Command}
use Rattle.ticks.specs.Commands.{nothing}
use Rattle.reader.specs.declared.Extent.{Extent}
use Rattle.reader.specs.Samples.{Sample, no_extent}
use Rattle.voice.specs.declared.Voice.{Voice}
use Rattle.voice.specs.Voice.{silent_of, told_of}
use Rattle.voice.specs.Modules.{sample_with}
use Rattle.voice.specs.Frames.{steps_of, gives_at, side_of, sum_of, blank}
use Rattle.voice.specs.LegalFacts.{LegalSound}
use Rattle.voice_runs.specs.declared.line.Pace.{Pace}
use Rattle.voice_runs.specs.Runs.{Paced}
use Rattle.mixing.specs.declared.side.Side.{Side}
use Rattle.mixing.specs.declared.side.Side.TheVariants.{Left, Right}

-- a side's number
abbrev pub number_of : Side → ℕ
number_of Left = 0
number_of Right = 1

-- ---- voices beside their samples' extents
-- the sample of an extent in a file
abbrev pub cut_of : List ℕ → Extent → Sample
cut_of file x = sample_with (take (x.to - x.from) (drop x.from file)) x

-- a legal voice, whose sample lies in the file
pub record Voiced (file : List ℕ) (x : Extent) (v : Voice) : Type 0 where
  pub order : x.from ≤ x.to
  pub inside : x.to ≤ length file
  pub whole : x.end ≤ x.to - x.from
  pub loop : x.looped ≡ true → x.first < x.end
  pub legal : LegalSound x.end v

abbrev pub extent_at : List Extent → ℕ → Extent
extent_at xs i = get_or xs i no_extent

abbrev pub voice_in : List Voice → ℕ → Voice
voice_in vs i = get_or vs i blank

-- so for each of c channels
pub record Sounding (file : List ℕ) (xs : List Extent) (vs : List Voice) (c : ℕ) : Type 0 where
  pub few : c ≤ width
  pub at : (i : ℕ) → i < c → Voiced file (extent_at xs i) (voice_in vs i)

-- ---- their paces
-- what stands for the pace of a channel that is not there
abbrev pub no_pace : Pace
no_pace = record { growth = 0; inverse = 0 }

-- each of c channels has the pace of its voice
pub record Pacing (vs : List Voice) (ps : List Pace) (c : ℕ) : Type 0 where
  pub at : (i : ℕ) → i < c → Paced (voice_in vs i).period (get_or ps i no_pace)

-- ---- n frames, by sides
module _ (file : List ℕ) (xs : List Extent) (vs : List Voice) where
  -- what channel i gives in frame k
  unfoldable pub given_by : ℕ → ℕ → ℤ
  given_by k i = gives_at (cut_of file (extent_at xs i)) (voice_in vs i) k

  -- the side's number in frame k, of the first c channels
  unfoldable pub side_at : ℕ → ℕ → ℕ → ℕ → ℤ
  side_at times side c k = sum_of (given_by k) side c *ℤ pos times

  -- the voice of channel i after n frames
  abbrev pub later_at : ℕ → ℕ → Voice
  later_at n i = steps_of (cut_of file (extent_at xs i)) n (voice_in vs i)

  -- the same if it is on the side
  unfoldable pub sided_at : ℕ → ℕ → ℕ → Voice
  sided_at n side i = cond (eqb (side_of i) side) (later_at n i) (voice_in vs i)

  -- the voices after n frames of the side
  unfoldable pub sided_of : ℕ → ℕ → ℕ → List Voice
  sided_of n side c = within (sided_at n side) blank c width vs

  -- and of both sides
  unfoldable pub later_of : ℕ → ℕ → List Voice
  later_of n c = within (later_at n) blank c width vs

-- ---- the channels that sound
-- whether channel i, of this voice, sounds on the side
unfoldable pub sounds_of : ℕ → ℕ → Voice → Bool
sounds_of side i v = cond (eqb (side_of i) side) (cond (silent_of v) false true) false

-- r is the first channel from i on that sounds on the side, or c
pub record Next (vs : List Voice) (side c i r : ℕ) : Type 0 where
  pub from : i ≤ r
  pub most : r ≤ c
  pub idle : (j : ℕ) → i ≤ j → j < r → sounds_of side j (voice_in vs j) ≡ false
  pub there : r < c → sounds_of side r (voice_in vs r) ≡ true

-- the channels before i are mixed on the side, which has c: their voices have moved, and the cells have their sums; channel i sounds, or is c
pub record Siding (file : List ℕ) (xs : List Extent) (vs : List Voice) (times side c n : ℕ) (w : List Voice) (cells : List ℤ) (i : ℕ) : Type 0 where
  pub few : i ≤ c
  pub there : i < c → sounds_of side i (voice_in vs i) ≡ true
  pub voices : Parting (sided_at file xs vs n side) (voice_in vs) blank width w i
  pub sums : Holds (side_at file xs vs times side i) n cells

-- ---- the voices told their commands
-- the extent of channel i's sample
abbrev pub mark_at : List Extent → List Command → ℕ → Extent
mark_at extents cs i = get_or extents (get_or cs i nothing).sample no_extent

-- its voice told the command, which reads no byte
unfoldable pub told_at : List Extent → List Voice → List Command → ℕ → Voice
told_at xs vs cs i = told_of (sample_with [] (extent_at xs i)) (get_or cs i nothing) (voice_in vs i)

-- whether the voice of channel i is silent
abbrev pub silent_at : List Voice → ℕ → Bool
silent_at vs i = silent_of (voice_in vs i)
