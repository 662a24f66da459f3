-- The float calls, on the cells that the C calls are lent.
-- Assumes nothing.
use Rattle.std.specs.Prelude.{ℕ, List, Float}
use Rattle.common.specs.Answers.{Outcome}
use Rattle.cells.specs.Cells.{state_of}
use Rattle.float_player.specs.declared.FloatReply.{FloatReply}
use Rattle.float_player.specs.Play.{play_floats_of}
use Rattle.float_board.specs.declared.FloatAnswer.{FloatAnswer}
use Rattle.float_board.specs.Board.{play_stream_floats_from_of}
use Rattle.replies.specs.Pairs.{pair_in}

-- the player's call
abbrev pub floats_on : List ℕ → List ℕ → ℕ → ℕ → List Float → ℕ → List Float → Outcome FloatReply Float
floats_on bytes state n sides pair tick out = play_floats_of bytes (state_of state) n sides (pair_in pair tick) out

-- the stream player's, from tick `first` on
abbrev pub stream_floats_on : List ℕ → List ℕ → ℕ → ℕ → List Float → ℕ → List Float → Outcome FloatAnswer Float
stream_floats_on bytes stream first sides pair tick out = play_stream_floats_from_of bytes stream first sides (pair_in pair tick) out
