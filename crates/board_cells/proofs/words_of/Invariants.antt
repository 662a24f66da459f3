-- The loop: the words are made up to one.
use Rattle.laws.specs.Each.{Filled}
use Prim.Native.Nat.{◌*◌, ◌-◌, ◌≤◌}
use Rattle.board_cells.specs.Cells.{word_count, word_of}
use Rattle.board_cells.proofs.words_of.Given as goal

abbrev pub invariant-loop-i : goal.invariant-loop-i
invariant-loop-i l = (l.i ≤ word_count) × Filled (λ j. word_of l.bytes (4 * j)) 0 word_count l.words l.i

abbrev pub decreases-loop-i : goal.decreases-loop-i
decreases-loop-i l = word_count - l.i
