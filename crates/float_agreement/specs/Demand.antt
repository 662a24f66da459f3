-- Demand 3 for floats: it also holds for these frames where both players are asked for the same sides, 1 or 2. Every clause is that of `agreement/specs/Demand.antt`; the
-- numbers are demand 2's, delivered; and with records of their own and outputs of one length both players keep the same last left and right.
-- Assumes nothing.
use Rattle.std.specs.Prelude.{ℕ, ◌≡◌, List, length, take, Float}
use Rattle.common.specs.Answers.{outcome}
use Rattle.reader.specs.File.{module_of}
use Rattle.floats.specs.declared.Pair.{Pair}
use Rattle.floats.specs.Frames.{floats_of}
use Rattle.player.specs.State.{fresh_state}
use Rattle.float_player.specs.Play.{play_floats_of}
use Rattle.translator.specs.Translate.{stream_of, translate_of}
use Rattle.float_board.specs.Board.{play_stream_floats_of}
use Rattle.agreement.specs.Demand.{sound_of, Kind, Agreement}
use Rattle.float_agreement.specs.declared.FloatBoth.{FloatBoth}

-- ---- the three calls
-- for every input: what each call returned and left is what its definition gives
pub record FloatCalls (bytes : List ℕ) (n sides : ℕ) (mine its : Pair) (r : FloatBoth) (room room' : List ℕ) (panel panel' board board' : List Float) : Type 0 where
  -- the translator, with the room
  pub translated : outcome r.translated room' ≡ translate_of bytes n room
  -- the player, from a fresh state, with its record and the panel's output
  pub played : outcome r.played panel' ≡ play_floats_of bytes fresh_state n sides mine panel
  -- the stream player, with the bytes of the room that the translator counted, its record and the board's output
  pub streamed : outcome r.streamed board' ≡ play_stream_floats_of bytes (take r.translated.count room') sides its board

-- ---- float frames as a kind
-- n ticks of a module from a fresh state, for a page of so many sides, with this record before
abbrev pub float_kind : List ℕ → ℕ → ℕ → Pair → Kind Float
float_kind bytes n sides pair =
    record {
      plays = λ out. outcome (play_floats_of bytes fresh_state n sides pair out).reply.reply.answer (play_floats_of bytes fresh_state n sides pair out).out;
      streams = λ s out. outcome (play_stream_floats_of bytes s sides pair out).reply.answer (play_stream_floats_of bytes s sides pair out).out;
      sound = λ k. floats_of sides (sound_of bytes k);
    }

-- ---- the demand
pub record FloatAgreement (bytes : List ℕ) (n sides : ℕ) (mine its : Pair) (r : FloatBoth) (room room' : List ℕ) (panel panel' board board' : List Float) : Type 0 where
  -- every clause of demand 3
  pub frames : Agreement (float_kind bytes n sides its) (stream_of (module_of bytes) n) n r.translated r.played.reply.answer r.streamed.answer room room' panel panel' board board'
  -- the stream player's record is the one that the player's definition gives for its output
  pub board_pair : r.streamed.pair ≡ (play_floats_of bytes fresh_state n sides its board).reply.pair
  -- with one record before and outputs of one length both have the same record after
  pub same_pair : mine ≡ its → length panel ≡ length board → r.played.pair ≡ r.streamed.pair
