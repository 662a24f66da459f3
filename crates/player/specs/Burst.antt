-- A burst of touches: single touches, in their order, as one call on lists of plain numbers.
-- Assumes nothing.
use Rattle.std.specs.Prelude.{ℕ, zero, suc, max, not, ◌&&◌, List, [], ◌∷◌, length, ◌==◌, nat_lt, slice_index}
use Rattle.laws.specs.Ranges.{within}
use Rattle.common.specs.Answers.{refused, accepted, Outcome, outcome, Line, line, refusing}
use Rattle.reader.specs.File.{module_of}
use Rattle.player.specs.declared.State.{State}
use Rattle.player.specs.declared.touching.Burst.{Burst as LentBurst}
use Rattle.player.specs.declared.Reply.{Reply}
use Rattle.player.specs.State.{state_lines, reply}
use Rattle.player.specs.Touch.{touch_of}

-- the touches: the page, the clock when made, and the position of each
pub record Burst : Type 0 where
  pub pages : List ℕ
  pub mades : List ℕ
  pub positions : List ℕ

-- lent as three lists
abbrev pub as_burst : LentBurst → Burst
as_burst b = record { pages = b.pages.now; mades = b.mades.now; positions = b.positions.now }

-- ---- by a single call, which is given state, page, clock when made, and position
module _ (touch : State → ℕ → ℕ → ℕ → Reply) (b : Burst) (s : State) where
  -- touch number k from a state
  abbrev pub touch_at : ℕ → State → Reply
  touch_at k t = touch t (slice_index b.pages k) (slice_index b.mades k) (slice_index b.positions k)

  -- the state after the first k touches
  unfoldable pub state_through : ℕ → State
  state_through zero = s
  state_through (suc k) = (touch_at k (state_through k)).state

  -- an answer for each, 0 if accepted
  abbrev pub answer_to : ℕ → ℕ
  answer_to k = (touch_at k (state_through k)).answer.number

  -- state and answers are those of single calls in that order; answer cells past the touches stay
  unfoldable pub taken_from : List ℕ → Outcome Reply ℕ
  taken_from answers =
      outcome (reply (accepted (length b.pages)) (state_through (length b.pages))) (within answer_to 0 (length b.pages) (length answers) answers)

-- ---- the call
-- up to 64 touches
abbrev pub most_touches : ℕ
most_touches = 64

abbrev pub longest : Burst → ℕ
longest b = max (length b.pages) (max (length b.mades) (length b.positions))

-- a touch list above 64; an answer list shorter than the longest; unequal touch lists
abbrev pub burst_lines : Burst → List ℕ → List Line
burst_lines b answers =
    line 26 (nat_lt most_touches (longest b)) 0
    ∷ line 27 (nat_lt (length answers) (longest b)) 0
    ∷ line 34 (not (length b.pages == length b.mades && length b.mades == length b.positions)) 0
    ∷ []

unfoldable pub burst_of : List ℕ → State → Burst → List ℕ → Outcome Reply ℕ
burst_of bytes s b answers =
    refusing (λ number place. outcome (reply (refused number place) s) answers) (taken_from (touch_of bytes) b s answers)
    (state_lines (module_of bytes) s (burst_lines b answers))
