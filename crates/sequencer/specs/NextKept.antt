-- The next place is legal, and so are course and time after a tick's frames.
-- The main laws: `course_legal`, `course_kept`, `time_kept`; for a fresh song and a touch `row_begins` and `position_begins`.
-- Assumes nothing.
use Rattle.std.specs.Prelude.{ℕ, ◌+◌, ◌<◌, ◌≤◌, ◌==◌, ◌&&◌, ◌||◌, nat_lt, Option, None, Some, is_some, is_none, IfSome, option_map, unwrap_or}
use Rattle.std.proofs.Common.{arith, ltb-true}
use Rattle.std.proofs.Common.{zero-le}
use Rattle.laws.specs.Choice.{either}
use Rattle.common.specs.Limits.{last_row}
use Rattle.sequencer.specs.Songs.{no_loop, place, course_from, led_to, passed, next_of, loop_after, course_by, row_ticks, next_tick, time_at, time_to, course_to}
use Rattle.sequencer.specs.Legal.{least_speed}
use Rattle.sequencer.specs.Row.{following}
use Rattle.sequencer.specs.RowKept.{LegalMove, LegalFlow, following_legal}
use Rattle.sequencer.specs.declared.Place.{Place}
use Rattle.sequencer.specs.declared.Course.{Course}
use Rattle.sequencer.specs.declared.Time.{Time}
use Rattle.sequencer.specs.declared.Move.{Move}
use Rattle.sequencer.specs.declared.Flow.{Flow}
use Rattle.sequencer.specs.LegalFacts.{LegalPlace, LegalLoop, LegalCourse, LegalTime}

-- ---- after the row's cells
module _ (positions : ℕ) where
  -- of a choice, both are legal
  or_legal : (o : Option Place) (p : Place) → IfSome o (LegalPlace positions) → LegalPlace positions p → LegalPlace positions (unwrap_or o p)
  or_legal None p h k = k
  or_legal (Some q) p h k = h

  led_legal : (after : ℕ) (v : Move) → after < positions → LegalMove positions v → IfSome (led_to after v) (LegalPlace positions)
  unfolding led_to
  led_legal after v k h =
      either (λ (o : Option Place). IfSome o (LegalPlace positions)) (is_none v.position && is_none v.row) _ _ (λ e. tt)
      (λ e. record { position = below v.position h.position; row = first v.row h.row })
    where
      below : (o : Option ℕ) → IfSome o (λ p. p < positions) → unwrap_or o after < positions
      below None i = k
      below (Some p) i = i

      first : (o : Option ℕ) → IfSome o (λ row. row ≤ last_row) → unwrap_or o 0 ≤ last_row
      first None i = zero-le
      first (Some p) i = i

  jump_legal : (at : Place) → at.position < positions → (o : Option ℕ) → IfSome o (λ row. row ≤ last_row) → (p : Place) → LegalPlace positions p → LegalPlace positions (unwrap_or (option_map (place at.position) o) p)
  jump_legal at l None h p k = k
  jump_legal at l (Some row) h p k = record { position = l; row = h }

  passed_legal : (at : Place) (after : ℕ) → LegalPlace positions at → after < positions → LegalPlace positions (passed after at)
  unfolding passed
  passed_legal at after l h =
      either (LegalPlace positions) (nat_lt at.row last_row) _ _ (λ k. record { position = l.position; row = omega (arith, ltb-true at.row last_row k) }) (λ k. record { position = h; row = zero-le })

next_legal : (positions : ℕ) (at : Place) (f : Flow) → 0 < positions → LegalPlace positions at → LegalFlow positions f → LegalPlace positions (next_of positions at f)
unfolding next_of
next_legal positions at f z l h =
    let k = following_legal positions at.position z in
    or_legal positions (led_to (following positions at.position) f.moving) _ (led_legal positions _ f.moving k h.moving)
    (jump_legal positions at l.position f.looping.target h.looping.target _ (passed_legal positions at _ l k))

no_loop_legal : LegalLoop no_loop
no_loop_legal = record { row = zero-le; count = zero-le }

loop_legal : (positions row : ℕ) (f : Flow) → LegalFlow positions f → LegalLoop (loop_after row f)
unfolding loop_after
loop_legal positions row f h =
    either LegalLoop (is_none f.moving.position && is_none f.moving.row && (is_some f.looping.target || nat_lt row last_row)) _ _ (λ e. h.looping.kept) (λ e. no_loop_legal)

pub course_legal : (positions : ℕ) (c : Course) (f : Flow) → 0 < positions → LegalCourse positions c → LegalFlow positions f → LegalCourse positions (course_by positions c f)
unfolding course_by
course_legal positions c f z l h =
    record { at = l.at; next = next_legal positions c.at f z l.at h; looping = loop_legal positions c.at.row f h }

-- ---- a row's first tick, with no delay, and a position's first row
pub row_begins : (t : Time) → LegalTime t → LegalTime (time_at t 0 0)
row_begins t l = record { speed = l.speed; delay = zero-le; tick = omega (arith, l.speed.low); tempo = l.tempo }

pub position_begins : (positions position : ℕ) → position < positions → LegalCourse positions (course_from position)
position_begins positions position h = record { at = record { position = h; row = zero-le }; next = record { position = h; row = zero-le }; looping = no_loop_legal }

-- ---- after the frames
pub course_kept : (positions u : ℕ) (c : Course) → LegalCourse positions c → LegalCourse positions (course_to u c)
unfolding course_to
course_kept positions u c l = either (LegalCourse positions) (u == 0) _ _ (λ e. record { at = l.next; next = l.next; looping = l.looping }) (λ e. l)

next_less : (t : Time) → least_speed ≤ t.speed → next_tick t < row_ticks t
unfolding next_tick
next_less t h = either (λ (n : ℕ). n < row_ticks t) (nat_lt (t.tick + 1) (row_ticks t)) _ _ (λ e. ltb-true _ _ e) (λ e. omega arith)

pub time_kept : (t : Time) → LegalTime t → LegalTime (time_to (next_tick t) t)
unfolding time_to
time_kept t l =
    either LegalTime (next_tick t == 0) _ _ (λ e. row_begins t l)
    (λ e. record { speed = l.speed; delay = l.delay; tick = next_less t l.speed.low; tempo = l.tempo })
