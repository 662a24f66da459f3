-- What recurs in the rules of the effects: whether a cell has a note, or a target, whether it slides towards one, and the two digits of its
-- parameter.
-- Assumes nothing.
use Rattle.std.specs.Prelude.{ℕ, ◌/◌, ◌%◌, Bool, not, ◌&&◌, ◌||◌, eqb}
use Rattle.reader.specs.declared.Cell.{Cell}

-- parameter b3 = 16x + y
abbrev pub x : Cell → ℕ
x c = c.param / 16

abbrev pub y : Cell → ℕ
y c = c.param % 16

-- effect 3, and 5, which runs it from memory
unfoldable pub is_portamento : Cell → Bool
is_portamento c = eqb c.effect 0x03 || eqb c.effect 0x05

-- a period without these
unfoldable pub is_note : Cell → Bool
is_note c = not (eqb c.period 0) && not (eqb c.effect 0x03) && not (eqb c.effect 0x05)

-- a period with one of these
unfoldable pub is_target : Cell → Bool
is_target c = not (eqb c.period 0) && is_portamento c
