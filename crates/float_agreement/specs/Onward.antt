-- Demand 3 for a part of a stream, as floats: what the board plays of it from a tick on is what the player plays on from its state before that tick, the record
-- included (`floats_part_as_player`).
-- Assumes nothing.
use Rattle.std.specs.Prelude.{ℕ, ◌+◌, ◌≤◌, ◌≡◌, false, List, Float}
use Rattle.std.proofs.Math.Seq.{drop_at}
use borrow.Author.Tests.{eq-eqb}
use Rattle.common.specs.Answers.{refusing}
use Rattle.common.specs.ByteLaws.{Bytes}
use Rattle.reader.specs.File.{module_of}
use Rattle.reader.specs.Layouts.{module_legal}
use Rattle.reader.specs.Judge.{verdict}
use Rattle.floats.specs.declared.Pair.{Pair}
use Rattle.floats.specs.Frames.{unasked}
use Rattle.player.specs.State.{fresh_state}
use Rattle.player.specs.Play.{ticks_of}
use Rattle.float_player.specs.Play.{floats_from, play_floats_of}
use Rattle.float_player.specs.Keeps.{floats_accepted}
use Rattle.translator.specs.Translate.{most_ticks, stream_of}
use Rattle.translator.specs.Streams.{stream_keeps, decode_stream}
use Rattle.float_board.specs.Board.{played_floats, floats_board_by, play_stream_floats_from_of}
use Rattle.agreement.specs.Onward.{there, there_legal, ticks_are, before_long, led_there}
use Rattle.float_agreement.specs.Agreement.{heard}

module _ (bytes : List ℕ) (e : (verdict (module_of bytes)).number ≡ 0) (b : Bytes bytes) (first n : ℕ) (few : first + n ≤ most_ticks) (sides : ℕ) (a : unasked sides ≡ false) where
  pub floats_part_as_player : (pair : Pair) (out : List Float) → play_stream_floats_from_of bytes (stream_of (module_of bytes) (first + n)) first sides pair out ≡ heard (play_floats_of bytes (there bytes e b first n few) n sides pair out)
  unfolding play_stream_floats_from_of refusing floats_board_by played_floats floats_from
  floats_part_as_player pair out =
      let m = module_of bytes in
      let s = there bytes e b first n few in
      rw (
        eq-eqb (verdict m).number 0 e,
        a,
        stream_keeps m (first + n),
        decode_stream m (record { layout = module_legal bytes; judged = e; bytes = b }) (first + n) few,
        ticks_are bytes e b first n few,
        led_there bytes e b first n few,
        drop_at (ticks_of m first fresh_state) (ticks_of m n s) first (before_long bytes e b first n few),
        floats_accepted bytes s n sides pair out e (there_legal bytes e b first n few) a,
      )
