-- What a float call's equation says of the record's cells, and of the others that it leaves. Laws over plain variables.
-- Assumes nothing.
use Prim.Native.Nat.{ℕ}
use mathlib.Core.Path.{◌≡◌, ap, ◌∙◌}
use mathlib.Core.List.{List}
use lib.Ieee.{Float}
use Rattle.common.specs.Answers.{Outcome, outcome}
use Rattle.floats.specs.declared.Pair.{Pair}
use Rattle.player.specs.declared.State.{State}
use Rattle.cells.specs.Cells.{state_of}
use Rattle.float_player.specs.declared.FloatReply.{FloatReply}
use Rattle.float_player.specs.Play.{play_floats_of}
use Rattle.float_board.specs.declared.FloatAnswer.{FloatAnswer}
use Rattle.float_board.specs.Board.{play_stream_floats_from_of}
use Rattle.replies.specs.Answers.{answer_cells, cells_after}
use Rattle.replies.specs.Pairs.{pair_in, pair_after, pair_tick_after}
use Rattle.capi.specs.Floats.{floats_on, stream_floats_on}

-- ---- the player's call
module _ (bytes state : List ℕ) (n sides : ℕ) (pair : List Float) (tick : ℕ) (out out' : List Float) (s : State) (se : s ≡ state_of state) (old : Pair) (oe : old ≡ pair_in pair tick) (r : FloatReply) (e : outcome r out' ≡ play_floats_of bytes s n sides old out) where
  here : outcome r out' ≡ floats_on bytes state n sides pair tick out
  here = e ∙ rw (se, oe)

  pub floats_answered : (answer : List ℕ) → answer ≡ answer_cells r.reply.answer → answer ≡ answer_cells (floats_on bytes state n sides pair tick out).reply.reply.answer
  floats_answered answer q = q ∙ ap (λ (x : Outcome FloatReply Float). answer_cells x.reply.reply.answer) here

  pub floats_stated : (after : List ℕ) → after ≡ cells_after r.reply state → after ≡ cells_after (floats_on bytes state n sides pair tick out).reply.reply state
  floats_stated after q = q ∙ ap (λ (x : Outcome FloatReply Float). cells_after x.reply.reply state) here

  pub floats_paired : (after : List Float) → after ≡ pair_after r.reply.answer r.pair pair → after ≡ pair_after (floats_on bytes state n sides pair tick out).reply.reply.answer (floats_on bytes state n sides pair tick out).reply.pair pair
  floats_paired after q = q ∙ ap (λ (x : Outcome FloatReply Float). pair_after x.reply.reply.answer x.reply.pair pair) here

  pub floats_ticked : (after : ℕ) → after ≡ pair_tick_after r.reply.answer r.pair tick → after ≡ pair_tick_after (floats_on bytes state n sides pair tick out).reply.reply.answer (floats_on bytes state n sides pair tick out).reply.pair tick
  floats_ticked after q = q ∙ ap (λ (x : Outcome FloatReply Float). pair_tick_after x.reply.reply.answer x.reply.pair tick) here

  pub floats_left : out' ≡ (floats_on bytes state n sides pair tick out).out
  floats_left = ap (λ (x : Outcome FloatReply Float). x.out) here

-- ---- the stream player's
module _ (bytes stream : List ℕ) (first sides : ℕ) (pair : List Float) (tick : ℕ) (out out' : List Float) (old : Pair) (oe : old ≡ pair_in pair tick) (r : FloatAnswer) (e : outcome r out' ≡ play_stream_floats_from_of bytes stream first sides old out) where
  there : outcome r out' ≡ stream_floats_on bytes stream first sides pair tick out
  there = e ∙ rw oe

  pub stream_answered : (answer : List ℕ) → answer ≡ answer_cells r.answer → answer ≡ answer_cells (stream_floats_on bytes stream first sides pair tick out).reply.answer
  stream_answered answer q = q ∙ ap (λ (x : Outcome FloatAnswer Float). answer_cells x.reply.answer) there

  pub stream_paired : (after : List Float) → after ≡ pair_after r.answer r.pair pair → after ≡ pair_after (stream_floats_on bytes stream first sides pair tick out).reply.answer (stream_floats_on bytes stream first sides pair tick out).reply.pair pair
  stream_paired after q = q ∙ ap (λ (x : Outcome FloatAnswer Float). pair_after x.reply.answer x.reply.pair pair) there

  pub stream_ticked : (after : ℕ) → after ≡ pair_tick_after r.answer r.pair tick → after ≡ pair_tick_after (stream_floats_on bytes stream first sides pair tick out).reply.answer (stream_floats_on bytes stream first sides pair tick out).reply.pair tick
  stream_ticked after q = q ∙ ap (λ (x : Outcome FloatAnswer Float). pair_tick_after x.reply.answer x.reply.pair tick) there

  pub stream_left : out' ≡ (stream_floats_on bytes stream first sides pair tick out).out
  stream_left = ap (λ (x : Outcome FloatAnswer Float). x.out) there
