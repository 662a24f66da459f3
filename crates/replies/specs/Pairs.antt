-- What the C calls read of, and leave in, the cells of the record of the last left and right: two floats, and their tick beside them.
-- Assumes nothing.
use Rattle.std.specs.Prelude.{ℕ, cond, List, [], ◌∷◌, eqb, get_or, Float}
use Rattle.std.specs.Float.{nan}
use Rattle.common.specs.declared.Answer.{Answer}
use Rattle.floats.specs.declared.Pair.{Pair}

-- the record in cells
abbrev pub pair_in : List Float → ℕ → Pair
pair_in cells tick = record { left = get_or cells 0 nan; right = get_or cells 1 nan; tick = tick }

-- the record's two floats after the call; on a refusal both cells stay
unfoldable pub pair_after : Answer → Pair → List Float → List Float
pair_after a pair cells = cond (eqb a.number 0) (pair.left ∷ pair.right ∷ []) cells

-- and its tick
unfoldable pub pair_tick_after : Answer → Pair → ℕ → ℕ
pair_tick_after a pair tick = cond (eqb a.number 0) pair.tick tick
