-- What reading a row rests on: where its cells begin, found once, and which cells do nothing to the song.
-- Assumes nothing.
use Rattle.std.specs.Prelude.{◌≡◌, ℕ, ◌+◌, ◌*◌, ◌^◌, ◌<◌}
use Rattle.std.proofs.Common.{ap, arith, ne_eqb}
use Rattle.reader.specs.File.{Module}
use Rattle.reader.specs.Cells.{cell_from, row_offset, cell_at}
use Rattle.reader.specs.declared.Cell.{Cell}
use Rattle.sequencer.specs.declared.Place.{Place}
use Rattle.sequencer.specs.declared.Flow.{Flow}
use Rattle.sequencer.specs.Row.{row_speed, row_tempo, row_delay, row_time, row_loop, row_move, row_flow, cell_on}

-- a row's cells begin at a place of the file
pub record BeginsAt (m : Module) (at : Place) (row : ℕ) : Type 0 where
  pub place : row ≡ row_offset m at.position at.row
  pub low : row < 2 ^ 62

-- from there the channels' cells follow
pub cell_there : (m : Module) (at : Place) (row : ℕ) → BeginsAt m at row → (i : ℕ) → cell_from m.bytes (row + 4 * i) ≡ cell_on m at i
unfolding cell_at
cell_there m at row b i = ap (cell_from m.bytes) (omega (arith, b.place))

-- effects below B do nothing to the song
pub flow_stays : (positions row : ℕ) (c : Cell) (f : Flow) → c.effect < 0x0B → f ≡ row_flow positions row c f
unfolding row_flow row_time row_speed row_tempo row_delay row_loop row_move
flow_stays positions row c f h =
    rw (
      ne_eqb c.effect 0x0F (omega arith),
      ne_eqb c.effect 0xEE (omega arith),
      ne_eqb c.effect 0xE6 (omega arith),
      ne_eqb c.effect 0x0B (omega arith),
      ne_eqb c.effect 0x0D (omega arith),
    )
