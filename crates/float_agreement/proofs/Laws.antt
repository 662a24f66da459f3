-- What the three calls ensure, put together.
-- Assumes nothing.
use Prim.Native.Nat.{ℕ, ◌≤◌}
use mathlib.Core.Path.{◌≡◌, ap, ◌∙◌}
use mathlib.Core.Bool.{false}
use mathlib.Core.List.{List}
use lib.ListN.{length, take}
use lib.Ieee.{Float}
use Rattle.common.specs.Answers.{outcome}
use Rattle.common.specs.ByteLaws.{Bytes}
use Rattle.common.specs.declared.Answer.{Answer}
use Rattle.reader.specs.File.{module_of}
use Rattle.reader.specs.Judge.{verdict}
use Rattle.floats.specs.declared.Pair.{Pair}
use Rattle.floats.specs.Frames.{unasked}
use Rattle.player.specs.declared.State.{State}
use Rattle.player.specs.State.{fresh_state}
use Rattle.float_player.specs.declared.FloatReply.{FloatReply}
use Rattle.float_player.specs.Play.{play_floats_of}
use Rattle.translator.specs.Translate.{most_ticks, stream_of, translate_of}
use Rattle.float_board.specs.declared.FloatAnswer.{FloatAnswer}
use Rattle.float_board.specs.Board.{play_stream_floats_of}
use Rattle.float_agreement.specs.Demand.{FloatCalls, FloatAgreement}
use Rattle.float_agreement.specs.Agreement.{floats_agree}

module _ (m : List ℕ) (n sides : ℕ) (mine its : Pair) (t : Answer) (p : FloatReply) (s : FloatAnswer) (room room' : List ℕ) (panel panel' board board' : List Float) (state : State) (e : outcome t room' ≡ translate_of m n room) (f : state ≡ fresh_state) (g : outcome p panel' ≡ play_floats_of m state n sides mine panel) (h : outcome s board' ≡ play_stream_floats_of m (take t.count room') sides its board) where
  -- the player's state is the fresh one
  pub called : FloatCalls m n sides mine its (record { translated = t; played = p; streamed = s }) room room' panel panel' board board'
  called = record { translated = e; played = g ∙ ap (λ (x : State). play_floats_of m x n sides mine panel) f; streamed = h }

  pub agreed : Bytes m → (verdict (module_of m)).number ≡ 0 → unasked sides ≡ false → n ≤ most_ticks → length (stream_of (module_of m) n) ≤ length room → FloatAgreement m n sides mine its (record { translated = t; played = p; streamed = s }) room room' panel panel' board board'
  agreed b v a few l = floats_agree m n sides v b few a mine its (record { translated = t; played = p; streamed = s }) room room' panel panel' board board' l called
