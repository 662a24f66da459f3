-- The samples: where each lies in the file, its end and its loop. A sample number counts from 1, and 0 is none.
-- Assumes nothing.
use Rattle.std.specs.Prelude.{ℕ, zero, suc, ◌+◌, ◌-◌, ◌*◌, Bool, false, cond, List, ltb, take, drop}
use Rattle.laws.specs.Ranges.{padded}
use Rattle.reader.specs.File.{Module, sample_count, sample_words, loop_start, loop_length, sample_place}
use Rattle.reader.specs.declared.Extent.{Extent}
use Rattle.common.specs.Limits.{sample_numbers}

-- looped if the repeat length is above 1
abbrev pub looped_of : Module → ℕ → Bool
looped_of m k = ltb 1 (loop_length m.bytes k)

-- its end is 2 × (start + repeat length) if looped, else 2 × length
abbrev pub end_of : Module → ℕ → ℕ
end_of m k = cond (looped_of m k) (2 * (loop_start m.bytes k + loop_length m.bytes k)) (2 * sample_words m.bytes k)

-- the loop's first byte, 0 where there is no loop
abbrev pub first_of : Module → ℕ → ℕ
first_of m k = cond (looped_of m k) (2 * loop_start m.bytes k) 0

abbrev pub no_extent : Extent
no_extent = record { from = 0; to = 0; end = 0; looped = false; first = 0 }

-- the bytes of sample number k lie from `from` up to `to`; its end and loop count from its first byte
unfoldable pub extent_of : Module → ℕ → Extent
extent_of m zero = no_extent
extent_of m (suc k) =
    record {
      from = sample_place m k;
      to = sample_place m k + 2 * sample_words m.bytes k;
      end = end_of m k;
      looped = looped_of m k;
      first = first_of m k;
    }

-- a table of them by sample number has as many entries for every layout
abbrev pub extents_of : Module → List Extent
extents_of m = padded (extent_of m) no_extent (sample_count m + 1) sample_numbers

-- ---- what a voice is given: the bytes of one sample, as a part of the file, its end and its loop
pub record Sample : Type 0 where
  pub bytes : List ℕ
  pub end : ℕ
  pub looped : Bool
  pub first : ℕ

abbrev pub sample_in : Module → Extent → Sample
sample_in m x =
    record { bytes = take (x.to - x.from) (drop x.from m.bytes); end = x.end; looped = x.looped; first = x.first }
