-- The cells of the patterns, by position of the song, row and channel.
-- Assumes nothing.
use Rattle.std.specs.Prelude.{ℕ, ◌+◌, ◌*◌, ◌/◌, ◌%◌, cond, List, eqb}
use Rattle.reader.specs.File.{Module, entry_of, cell_place, cells_in}
use Rattle.reader.specs.Judge.{number_of, period_of}
use Rattle.reader.specs.declared.Cell.{Cell}
use Rattle.common.specs.Bytes.{byte_at}
use Rattle.common.specs.Limits.{rows}

-- effect: low nibble of b2. The effects E0 to EF have the numbers 224 to 239: 14 times 16, plus x
abbrev pub effect_of : ℕ → ℕ → ℕ
effect_of b2 b3 = cond (eqb (b2 % 16) 14) (224 + b3 / 16) (b2 % 16)

-- four bytes b0..b3; parameter b3 = 16x + y
abbrev pub cell_of : ℕ → ℕ → ℕ → ℕ → Cell
cell_of b0 b1 b2 b3 = record { sample = number_of b0 b2; period = period_of b0 b1; effect = effect_of b2 b3; param = b3 }

unfoldable pub cell_from : List ℕ → ℕ → Cell
cell_from xs at = cell_of (byte_at xs at) (byte_at xs (at + 1)) (byte_at xs (at + 2)) (byte_at xs (at + 3))

-- where the cells of a position's row begin, each from 0
abbrev pub row_offset : Module → ℕ → ℕ → ℕ
row_offset m position row = cell_place m.layout (cells_in m.layout (rows * entry_of m position + row))

-- where that of a channel lies
abbrev pub cell_offset : Module → ℕ → ℕ → ℕ → ℕ
cell_offset m position row channel = cell_place m.layout (cells_in m.layout (rows * entry_of m position + row) + channel)

unfoldable pub cell_at : Module → ℕ → ℕ → ℕ → Cell
cell_at m position row channel = cell_from m.bytes (cell_offset m position row channel)
