-- What a reply leaves in cells, by whether the call refused: on a refusal every cell stays. Laws over plain variables.
-- Assumes nothing.
use Prim.Native.Nat.{ℕ}
use mathlib.Core.Path.{◌≡◌}
use mathlib.Core.List.{List, [], ◌∷◌}
use lib.Ieee.{Float}
use borrow.Author.Tests.{eq-eqb, ne_eqb}
use Rattle.common.specs.declared.Answer.{Answer}
use Rattle.floats.specs.declared.Pair.{Pair}
use Rattle.player.specs.declared.Reply.{Reply}
use Rattle.cells.specs.Cells.{state_cells}
use Rattle.replies.specs.Answers.{cells_after}
use Rattle.replies.specs.Pairs.{pair_after, pair_tick_after}

-- ---- the state's cells
pub kept_cells : (r : Reply) (cells : List ℕ) → (r.answer.number ≡ 0 → ⊥) → cells ≡ cells_after r cells
unfolding cells_after
kept_cells r cells h = rw (ne_eqb r.answer.number 0 h)

pub new_cells : (r : Reply) (cells after : List ℕ) → r.answer.number ≡ 0 → after ≡ state_cells r.state → after ≡ cells_after r cells
unfolding cells_after
new_cells r cells after h e = rw (eq-eqb r.answer.number 0 h) e

-- ---- the record's cells
module _ (a : Answer) (pair : Pair) (cells : List Float) (tick : ℕ) where
  pub kept_pair : (a.number ≡ 0 → ⊥) → cells ≡ pair_after a pair cells
  unfolding pair_after
  kept_pair h = rw (ne_eqb a.number 0 h)

  pub kept_tick : (a.number ≡ 0 → ⊥) → tick ≡ pair_tick_after a pair tick
  unfolding pair_tick_after
  kept_tick h = rw (ne_eqb a.number 0 h)

  pub new_pair : a.number ≡ 0 → (pair.left ∷ pair.right ∷ []) ≡ pair_after a pair cells
  unfolding pair_after
  new_pair h = rw (eq-eqb a.number 0 h)

  pub new_tick : a.number ≡ 0 → pair.tick ≡ pair_tick_after a pair tick
  unfolding pair_tick_after
  new_tick h = rw (eq-eqb a.number 0 h)
