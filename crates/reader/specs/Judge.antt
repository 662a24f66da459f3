-- Refusals 1 to 9: the paper's table, a line a refusal, in its order.
-- Assumes nothing.
use Rattle.std.specs.Prelude.{ℕ, ◌+◌, ◌*◌, ◌/◌, ◌%◌, Bool, not, ◌||◌, ◌&&◌, List, [], ◌∷◌, length, ltb, eqb}
use Rattle.laws.specs.Ranges.{some, first}
use Rattle.common.specs.Answers.{Line, line, refusing, refused, accepted}
use Rattle.reader.specs.File.{sample_count, channel_count, sample_words, volume_place, header_volume, loop_start_place, loop_start, loop_length, cells_in, sample_place, Module, module_of, last_pattern, song_length, entries, entry_of, cell_place, patterns_of}
use Rattle.common.specs.Bytes.{byte_at}
use Rattle.common.specs.declared.Answer.{Answer}
use Rattle.common.specs.Limits.{loudest, rows, bad_period}

-- ---- what is bad
-- the tag is one of the four, or there is none: a file whose tag is another has no channel
unfoldable pub tagged : Module → Bool
tagged m = not (eqb (channel_count m) 0)

-- song length 0 or above 128, the number of table entries
unfoldable pub bad_length : Module → Bool
bad_length m = eqb (song_length m) 0 || ltb entries (song_length m)

-- a table entry above 63
unfoldable pub bad_entry : Module → ℕ → Bool
bad_entry m i = ltb last_pattern (entry_of m i)

-- a volume above 64
unfoldable pub bad_volume : Module → ℕ → Bool
bad_volume m k = ltb loudest (header_volume m.bytes k)

-- repeat length above 1 and start + repeat length above length
unfoldable pub bad_loop : Module → ℕ → Bool
bad_loop m k = ltb 1 (loop_length m.bytes k) && ltb (sample_words m.bytes k) (loop_start m.bytes k + loop_length m.bytes k)

-- sample number: high nibble of b0, times 16, plus high nibble of b2
abbrev pub number_of : ℕ → ℕ → ℕ
number_of b0 b2 = b0 / 16 * 16 + b2 / 16

-- period: low nibble of b0, times 256, plus b1
abbrev pub period_of : ℕ → ℕ → ℕ
period_of b0 b1 = b0 % 16 * 256 + b1

-- those of the cell at a place
abbrev pub number_at : List ℕ → ℕ → ℕ
number_at xs at = number_of (byte_at xs at) (byte_at xs (at + 2))

abbrev pub period_at : List ℕ → ℕ → ℕ
period_at xs at = period_of (byte_at xs at) (byte_at xs (at + 1))

-- a cell's sample number above the last
unfoldable pub bad_number_at : Module → ℕ → Bool
bad_number_at m at = ltb (sample_count m) (number_at m.bytes at)

-- a cell's period
unfoldable pub bad_period_at : Module → ℕ → Bool
bad_period_at m at = bad_period (period_at m.bytes at)

-- a bad cell
unfoldable pub bad_at : Module → ℕ → Bool
bad_at m at = bad_number_at m at || bad_period_at m at

abbrev pub bad_cell : Module → ℕ → Bool
bad_cell m i = bad_at m (cell_place m.layout i)

-- the first bad cell of n
abbrev pub first_cell : Module → ℕ → ℕ
first_cell m n = cell_place m.layout (first (bad_cell m) n)

-- ---- the table
-- 8 and 9: the first bad cell in file order counts, with 8 before 9 in one cell
unfoldable pub cell_lines : Module → ℕ → List Line
cell_lines m n =
    line 8 (some (bad_cell m) n && bad_number_at m (first_cell m n)) (first_cell m n)
    ∷ line 9 (some (bad_cell m) n) (first_cell m n)
    ∷ []

unfoldable pub rest_lines : Module → List Line
rest_lines m =
    line 7 (ltb (length m.bytes) (sample_place m (sample_count m))) (length m.bytes)
    ∷ cell_lines m (cells_in m.layout (rows * patterns_of m))

abbrev pub table : Module → List Line
table m =
    line 1 (ltb (length m.bytes) m.layout.patterns) (length m.bytes)
    ∷ line 2 (not (tagged m)) m.layout.tag
    ∷ line 3 (bad_length m) m.layout.song
    ∷ line 4 (some (bad_entry m) entries) (m.layout.table + first (bad_entry m) entries)
    ∷ line 5 (some (bad_volume m) (sample_count m)) (volume_place (first (bad_volume m) (sample_count m)))
    ∷ line 6 (some (bad_loop m) (sample_count m)) (loop_start_place (first (bad_loop m) (sample_count m)))
    ∷ rest_lines m

-- the smallest number wins
unfoldable pub verdict : Module → Answer
verdict m = refusing refused (accepted 0) (table m)

-- whether any bytes are a module
unfoldable pub judge_of : List ℕ → Answer
judge_of bytes = verdict (module_of bytes)

-- the line of a call that is lent a module: 1 to 9 come first
abbrev pub module_line : Module → Line
module_line m = line (verdict m).number (not (eqb (verdict m).number 0)) (verdict m).place
