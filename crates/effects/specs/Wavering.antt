-- Which cells waver, and what a cell does to a channel's waves: effects 4, 6, 7, E4 and E7.
-- Assumes nothing.
use Rattle.std.specs.Prelude.{ℕ, ◌%◌, min, Bool, cond, ◌&&◌, ◌||◌, eqb, ltb}
use Rattle.reader.specs.declared.Cell.{Cell}
use Rattle.motion.specs.Waves.{square_form, remembered}
use Rattle.motion.specs.declared.Wave.{Wave}
use Rattle.effects.specs.Notes.{x, y, is_note}

-- ---- when t is above 0
-- 4 is vibrato, and 6 runs it from memory
unfoldable pub vibrates : Cell → ℕ → Bool
vibrates c t = ltb 0 t && (eqb c.effect 0x04 || eqb c.effect 0x06)

-- 7 is tremolo
unfoldable pub trembles : Cell → ℕ → Bool
trembles c t = ltb 0 t && eqb c.effect 0x07

-- ---- at u = 0
-- a start by a period sets the place to 0
unfoldable pub row_place : Cell → ℕ → ℕ
row_place c place = cond (is_note c) 0 place

-- E4 or E7 chooses by y mod 4, 3 meaning square
unfoldable pub row_form : ℕ → Cell → ℕ → ℕ
row_form choosing c form = cond (eqb c.effect choosing) (min (y c % 4) square_form) form

-- the wave of an effect keeps its own x and its own y, 0 meaning the old one; another effect chooses its form
unfoldable pub row_wave : ℕ → ℕ → Cell → Wave → Wave
row_wave effect choosing c w =
    record {
      x = remembered (eqb c.effect effect) (x c) w.x;
      y = remembered (eqb c.effect effect) (y c) w.y;
      place = row_place c w.place;
      form = row_form choosing c w.form;
    }
