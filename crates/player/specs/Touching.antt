-- A touch of an accepted module's song from a legal state; and bursts by it. That module and state may be judged once for a whole burst is
-- proofs/JudgedOnce.
-- Assumes nothing.
use Rattle.std.specs.Prelude.{ℕ, List}
use Rattle.common.specs.Answers.{refused, accepted, Outcome, outcome, refusing}
use Rattle.player.specs.declared.State.{State}
use Rattle.player.specs.declared.Reply.{Reply}
use Rattle.player.specs.State.{reply}
use Rattle.player.specs.Touch.{with_song, touched_at, touch_lines}
use Rattle.player.specs.Burst.{Burst, taken_from, burst_lines}

-- a touch by its own lines
unfoldable pub touch_from : ℕ → State → ℕ → ℕ → ℕ → Reply
touch_from positions s page made position =
    refusing (λ number place. reply (refused number place) s) (reply (accepted 0) (with_song s (touched_at s.song position)))
    (touch_lines positions s.song.desk page made position)

-- a burst by its own lines
unfoldable pub burst_from : ℕ → State → Burst → List ℕ → Outcome Reply ℕ
burst_from last s b answers =
    refusing (λ number place. outcome (reply (refused number place) s) answers) (taken_from (touch_from last) b s answers) (burst_lines b answers)
