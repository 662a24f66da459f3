-- The row's work keeps what it works on legal: the time, the loop, and where B and D lead, after any number of an accepted file's cells.
-- The main law: `flow_legal`.
-- Assumes nothing.
use Rattle.std.specs.Prelude.{◌≡◌, ℕ, ◌+◌, ◌-◌, ◌%◌, ◌<◌, ◌≤◌, ◌==◌, nat_lt, Option, IfSome}
use Rattle.std.proofs.Common.{arith}
use borrow.Author.Tests.{eqb-false, ltb-true, ltb-false}
use Rattle.std.proofs.Common.{zero-le}
use Rattle.std.proofs.Math.Dec.{lit≤}
use Rattle.laws.specs.Choice.{either}
use Rattle.laws.specs.Numbers.{cond-le}
use Rattle.common.specs.Limits.{last_row, last_byte, least_tempo, greatest_tempo}
use Rattle.reader.specs.declared.Cell.{Cell}
use Rattle.effects.specs.Notes.{y}
use Rattle.sequencer.specs.Row.{row_speed, row_tempo, row_delay, row_time, counted, row_loop, jump_position, tens, break_row, row_move, row_flow, following, flow_from}
use Rattle.sequencer.specs.Legal.{least_speed, greatest_speed, last_delay}
use Rattle.sequencer.specs.declared.Course.{Course}
use Rattle.sequencer.specs.declared.Time.{Time}
use Rattle.sequencer.specs.declared.Looping.{Looping}
use Rattle.sequencer.specs.declared.Move.{Move}
use Rattle.sequencer.specs.declared.Flow.{Flow}
use Rattle.common.specs.LimitFacts.{Between}
use Rattle.sequencer.specs.LegalFacts.{LegalLoop, LegalCourse, LegalTime}

-- ---- on the way through a row
pub record LegalLooping (l : Looping) : Type 0 where
  pub kept : LegalLoop l.kept
  pub target : IfSome l.target (λ row. row ≤ last_row)

pub record LegalMove (positions : ℕ) (v : Move) : Type 0 where
  pub position : IfSome v.position (λ p. p < positions)
  pub row : IfSome v.row (λ row. row ≤ last_row)

-- at u = 0
pub record LegalFlow (positions : ℕ) (f : Flow) : Type 0 where
  pub first : f.time.tick ≡ 0
  pub time : LegalTime f.time
  pub looping : LegalLooping f.looping
  pub moving : LegalMove positions f.moving

-- ---- the numbers
nibble : (n : ℕ) → n % 16 ≤ last_delay
nibble n = omega arith

fewer : (n : ℕ) → n ≤ last_delay → n - 1 ≤ last_delay
fewer n h = omega arith

break_legal : (p : ℕ) → break_row p ≤ last_row
unfolding break_row
break_legal p = either (λ (n : ℕ). n ≤ last_row) (nat_lt last_row (tens p)) 0 (tens p) (λ l. zero-le) (λ l. ltb-false last_row (tens p) l)

jump_legal : (positions p : ℕ) → 0 < positions → jump_position positions p < positions
unfolding jump_position
jump_legal positions p h = either (λ (k : ℕ). k < positions) (nat_lt p positions) p 0 (λ l. ltb-true p positions l) (λ l. h)

pub following_legal : (positions p : ℕ) → 0 < positions → following positions p < positions
unfolding following
following_legal positions p h = either (λ (k : ℕ). k < positions) (nat_lt (p + 1) positions) (p + 1) 0 (λ l. ltb-true (p + 1) positions l) (λ l. h)

-- ---- one cell's work
counted_legal : (l : Looping) (n : ℕ) → LegalLooping l → n ≤ last_delay → LegalLooping (counted l n)
unfolding counted
counted_legal l n h k =
    record {
      kept = record { row = h.kept.row; count = k };
      target = either (λ (o : Option ℕ). IfSome o (λ row. row ≤ last_row)) (n == 0) _ _ (λ e. h.target) (λ e. h.kept.row);
    }

module _ (c : Cell) where
  speed_legal : (s : ℕ) → Between least_speed greatest_speed s → Between least_speed greatest_speed (row_speed c s)
  unfolding row_speed
  speed_legal s h =
      either (Between least_speed greatest_speed) (c.effect == 0x0F) _ _
      (λ f. either (Between least_speed greatest_speed) (c.param == 0) _ _ (λ e. record { low = lit≤ tt; high = lit≤ tt })
      (λ e. either (Between least_speed greatest_speed) (nat_lt c.param least_tempo) _ _ (λ l. omega (arith, eqb-false c.param 0 e, ltb-true c.param least_tempo l)) (λ l. h)))
      (λ f. h)

  tempo_legal : c.param ≤ last_byte → (s : ℕ) → Between least_tempo greatest_tempo s → Between least_tempo greatest_tempo (row_tempo c s)
  unfolding row_tempo
  tempo_legal b s h =
      either (Between least_tempo greatest_tempo) (c.effect == 0x0F) _ _
      (λ f. either (Between least_tempo greatest_tempo) (nat_lt c.param least_tempo) _ _ (λ l. h) (λ l. omega (arith, ltb-false c.param least_tempo l)))
      (λ f. h)

  delay_legal : (d : ℕ) → d ≤ last_delay → row_delay c d ≤ last_delay
  unfolding row_delay
  delay_legal d h = search (cond-le, nibble, h)

  time_legal : c.param ≤ last_byte → (t : Time) → t.tick ≡ 0 → LegalTime t → LegalTime (row_time c t)
  unfolding row_time
  time_legal b t z h =
      let s = speed_legal t.speed h.speed in
      record { speed = s; delay = delay_legal t.delay h.delay; tick = omega (arith, s.low); tempo = tempo_legal b t.tempo h.tempo }

  loop_legal : (row : ℕ) → row ≤ last_row → (l : Looping) → LegalLooping l → LegalLooping (row_loop c row l)
  unfolding row_loop
  loop_legal row r l h =
      either LegalLooping (c.effect == 0xE6) _ _
      (λ f. either LegalLooping (y c == 0) _ _ (λ e. record { kept = record { row = r; count = h.kept.count }; target = h.target })
      (λ e. counted_legal l _ h (search (cond-le, nibble, fewer, h.kept))))
      (λ f. h)

  move_legal : (positions : ℕ) → 0 < positions → (v : Move) → LegalMove positions v → LegalMove positions (row_move positions c v)
  unfolding row_move
  move_legal positions z v h =
      either (LegalMove positions) (c.effect == 0x0B) _ _ (λ e. record { position = jump_legal positions c.param z; row = h.row })
      (λ e. either (LegalMove positions) (c.effect == 0x0D) _ _ (λ k. record { position = h.position; row = break_legal c.param }) (λ k. h))

  pub flow_legal : c.param ≤ last_byte → (positions row : ℕ) → 0 < positions → row ≤ last_row → (f : Flow) → LegalFlow positions f → LegalFlow positions (row_flow positions row c f)
  unfolding row_flow row_time
  flow_legal b positions row z r f h =
      record {
        first = h.first;
        time = time_legal b f.time h.first h.time;
        looping = loop_legal row r f.looping h.looping;
        moving = move_legal positions z f.moving h.moving;
      }

-- ---- before the row's first cell
pub flow_from_legal : (positions : ℕ) (c : Course) (t : Time) → t.tick ≡ 0 → LegalCourse positions c → LegalTime t → LegalFlow positions (flow_from c t)
unfolding flow_from
flow_from_legal positions c t e l h = record { first = e; time = h; looping = record { kept = l.looping; target = tt }; moving = record { position = tt; row = tt } }
