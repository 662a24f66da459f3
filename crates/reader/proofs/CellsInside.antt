-- An accepted file's cells: the cell of any position, row and channel lies in the file, and its numbers are in range.
-- Assumes nothing.
use Rattle.std.specs.Prelude.{ℕ, ◌+◌, ◌*◌, ◌≤◌, ◌<◌, ◌≡◌, false, length}
use Rattle.std.proofs.Common.{arith, mul-le-mul_left}
use borrow.Author.Tests.{ltb-false}
use Rattle.laws.specs.Tests.{or_parts}
use Rattle.common.specs.Limits.{rows, last_row}
use Rattle.common.specs.LimitFacts.{cell_period_has}
use Rattle.reader.specs.File.{sample_count, channel_count, cells_in, Module, song_length, entry_of, patterns_of}
use Rattle.reader.specs.Judge.{number_at, period_at, bad_at, bad_number_at, bad_period_at}
use Rattle.reader.specs.Cells.{cell_from, cell_offset, cell_at}
use Rattle.reader.specs.Accept.{Accepted, LegalCell, entry_named, patterns_inside}

module _ (m : Module) (a : Accepted m) where
  -- the cell of any position below the song length, any row to 63 and any channel
  module _ (position row channel : ℕ) (p : position < song_length m) (r : row ≤ last_row) (c : channel < channel_count m) where
    abbrev index : ℕ
    index = cells_in m.layout (rows * entry_of m position + row) + channel

    -- a row of a pattern is one of all rows, and its cells are among all cells
    in_row : index < cells_in m.layout (rows * patterns_of m)
    in_row = omega (arith, mul-le-mul_left (channel_count m) (let h : rows * entry_of m position + row + 1 ≤ rows * patterns_of m = omega (arith, entry_named m a position (omega (arith, a.song.1))) in h))

    pub cell_inside : cell_offset m position row channel + 3 < length m.bytes
    cell_inside = omega (arith, patterns_inside m a, in_row)

    good : (bad_number_at m (cell_offset m position row channel) ≡ false) × (bad_period_at m (cell_offset m position row channel) ≡ false)
    unfolding bad_at
    good = or_parts (bad_number_at m (cell_offset m position row channel)) (bad_period_at m (cell_offset m position row channel)) (a.cells index in_row)

    pub cell_legal : LegalCell (sample_count m) (cell_at m position row channel)
    unfolding cell_at cell_from bad_number_at bad_period_at
    cell_legal =
        record {
          sample = ltb-false (sample_count m) (number_at m.bytes (cell_offset m position row channel)) good.0;
          period = cell_period_has (period_at m.bytes (cell_offset m position row channel)) good.1;
        }
