-- The file: its layout, and where its parts lie. Offsets in bytes from 0, two-byte numbers high byte first.
-- What follows from the number of samples, the tag and the number of channels is named here and nowhere else.
-- Assumes nothing.
use Rattle.std.specs.Prelude.{ℕ, ◌+◌, ◌*◌, ◌/◌, ◌%◌, cond, ◌||◌, List, eqb}
use Rattle.laws.specs.Ranges.{total, largest}
use Rattle.reader.specs.declared.Layout.{Layout}
use Rattle.common.specs.Limits.{rows}
use Rattle.common.specs.Bytes.{byte_at, word_at, four_at}

-- ---- the layout
-- 128 table entries
abbrev pub entries : ℕ
entries = 128

-- a table entry names a pattern, to 63
abbrev pub last_pattern : ℕ
last_pattern = 63

-- a file that is read by a layout
pub record Module : Type 0 where
  pub layout : Layout
  pub bytes : List ℕ

abbrev pub lent : Layout → List ℕ → Module
lent l m = record { layout = l; bytes = m }

-- the layout of a file with so many samples and channels: 31 samples and a tag, or 15 and none
abbrev pub layout_for : ℕ → ℕ → Layout
layout_for n c =
    record {
      samples = n;
      channels = c;
      song = 20 + 30 * n;
      table = 22 + 30 * n;
      tag = 150 + 30 * n;
      patterns = 150 + 30 * n + n / 16 * 4;
    }

-- the tags, as the number that their four bytes spell: `M.K.`, `4CHN`, `6CHN` and `8CHN`
abbrev pub tag_mk : ℕ
tag_mk = 0x4D2E4B2E

abbrev pub tag_4chn : ℕ
tag_4chn = 0x3443484E

abbrev pub tag_6chn : ℕ
tag_6chn = 0x3643484E

abbrev pub tag_8chn : ℕ
tag_8chn = 0x3843484E

-- how many channels a tag names; any other tag names none
unfoldable pub channels_of : ℕ → ℕ
channels_of tag = cond (eqb tag tag_mk || eqb tag tag_4chn) 4 (cond (eqb tag tag_6chn) 6 (cond (eqb tag tag_8chn) 8 0))

-- 31-sample files have their tag at 1080
abbrev pub tag_place : ℕ
tag_place = 1080

-- and as many channels as it names
abbrev pub layout_of : List ℕ → Layout
layout_of bytes = layout_for 31 (channels_of (four_at bytes tag_place))

abbrev pub module_of : List ℕ → Module
module_of bytes = lent (layout_of bytes) bytes

abbrev pub sample_count : Module → ℕ
sample_count m = m.layout.samples

abbrev pub channel_count : Module → ℕ
channel_count m = m.layout.channels

-- ---- the headers
-- headers of 30 bytes from 20: header k, from 0
abbrev pub header_at : ℕ → ℕ
header_at k = 20 + 30 * k

-- length in words at +22, finetune +24 (low four bits), volume +25, repeat start +26 and repeat length +28 in words
abbrev pub sample_words : List ℕ → ℕ → ℕ
sample_words xs k = word_at xs (header_at k + 22)

abbrev pub header_finetune : List ℕ → ℕ → ℕ
header_finetune xs k = byte_at xs (header_at k + 24) % 16

abbrev pub volume_place : ℕ → ℕ
volume_place k = header_at k + 25

abbrev pub header_volume : List ℕ → ℕ → ℕ
header_volume xs k = byte_at xs (volume_place k)

abbrev pub loop_start_place : ℕ → ℕ
loop_start_place k = header_at k + 26

abbrev pub loop_start : List ℕ → ℕ → ℕ
loop_start xs k = word_at xs (loop_start_place k)

abbrev pub loop_length : List ℕ → ℕ → ℕ
loop_length xs k = word_at xs (header_at k + 28)

-- ---- the song
abbrev pub song_length : Module → ℕ
song_length m = byte_at m.bytes m.layout.song

abbrev pub entry_of : Module → ℕ → ℕ
entry_of m i = byte_at m.bytes (m.layout.table + i)

-- ---- the patterns
-- 64 rows of a cell of four bytes for each channel; the rows of all patterns are counted in file order
abbrev pub cells_in : Layout → ℕ → ℕ
cells_in l n = l.channels * n

-- cell i of all patterns, in file order
abbrev pub cell_place : Layout → ℕ → ℕ
cell_place l i = l.patterns + 4 * i

-- their count is one more than the largest of all 128 entries
unfoldable pub patterns_of : Module → ℕ
patterns_of m = largest (entry_of m) entries + 1

-- ---- the samples
-- then the samples in order, two bytes a word: where sample k, from 0, begins behind n patterns
abbrev pub sample_behind : Module → ℕ → ℕ → ℕ
sample_behind m n k = cell_place m.layout (cells_in m.layout (rows * n)) + 2 * total (sample_words m.bytes) k

-- behind all of them; at the number of samples, the end of the last
unfoldable pub sample_place : Module → ℕ → ℕ
sample_place m k = sample_behind m (patterns_of m) k
