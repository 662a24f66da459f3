-- Every float that the stream player delivers, and both floats of its record, are exact for the numbers that the 16-bit call plays (`floats_exact`).
-- Assumes nothing.
use Rattle.std.specs.Prelude.{ℕ, ◌≤◌, ◌≡◌, false, List, ℤ, length, take, drop, Float}
use Rattle.std.proofs.Math.Path.{sym}
use Rattle.std.proofs.Common.{ap, ◌∙◌}
use Rattle.common.specs.Answers.{Outcome}
use Rattle.common.specs.ByteLaws.{Bytes}
use Rattle.ticks.specs.declared.Tick.{Tick}
use Rattle.ticks.specs.Commands.{sounding_of}
use Rattle.ticks.specs.Legal.{length-sounding}
use Rattle.ticks.specs.Play.{fit, play_out}
use Rattle.reader.specs.File.{module_of, sample_count, channel_count}
use Rattle.reader.specs.Judge.{verdict}
use Rattle.reader.specs.Layouts.{module_legal}
use Rattle.reader.specs.Samples.{extents_of}
use Rattle.voice.specs.Voice.{samples_of}
use Rattle.voice.specs.Modules.{samples_bytes}
use Rattle.machine.specs.Kept.{rendered_fit}
use Rattle.floats.specs.declared.Pair.{Pair}
use Rattle.floats.specs.Frames.{unasked}
use Rattle.floats.specs.Delivered.{In16, ExactPlay}
use Rattle.float_machine.specs.Exact.{exact_play}
use Rattle.records.specs.Format.{keeps, at_first, ticks, decode}
use Rattle.records.specs.Registers.{first_long}
use Rattle.records.specs.Decoded.{stream_of_lem}
use Rattle.board.specs.Board.{play_stream_from_of}
use Rattle.board.specs.Alone.{legal_onward, legal_take}
use Rattle.board.specs.Counts.{stream_led, stream_numbers, stream_front}
use Rattle.float_board.specs.declared.FloatAnswer.{FloatAnswer}
use Rattle.float_board.specs.Board.{play_stream_floats_from_of}
use Rattle.float_board.specs.Parts.{float_mechanism, float_led, stream_floats_played}

module _ (bytes stream : List ℕ) (ts : List Tick) (e : (verdict (module_of bytes)).number ≡ 0) (b : Bytes bytes) (d : decode (sample_count (module_of bytes)) (channel_count (module_of bytes)) stream ≡ ticks ts) (first : ℕ) where
  -- no number of an accepted stream's ticks leaves 16 bits
  pub numbers_in_16 : (k : ℕ) → In16 (stream_numbers bytes stream ts first k)
  numbers_in_16 k =
      let m = module_of bytes in
      let last = sample_count m in
      let onward = legal_onward last first (sounding_of at_first) (length-sounding at_first ∙ first_long) ts (stream_of_lem last (channel_count m) stream ts d).legal in
      rendered_fit (keeps stream) last (channel_count m) (samples_of m) (module_legal bytes).channels (samples_bytes m (extents_of m) b) (stream_led bytes stream ts first) onward.soundings onward.long (take k (drop first ts)) (legal_take last k onward.soundings (drop first ts) onward.legal)

  -- a call for floats that plays k ticks from tick `first` on, for one side or two, and any 16-bit call that plays k ticks or more from there: the floats are exact for the numbers of
  -- its first k ticks, and so are the record's two for their last left and right
  pub floats_exact : (sides : ℕ) (pair : Pair) (out : List Float) → unasked sides ≡ false → (k : ℕ) → (play_stream_floats_from_of bytes stream first sides pair out).reply.answer.count ≡ k
      → (wide : List ℤ) → k ≤ (play_stream_from_of bytes stream first wide).reply.count
      → ExactPlay sides (take (length (stream_numbers bytes stream ts first k)) (play_stream_from_of bytes stream first wide).out) pair (play_stream_floats_from_of bytes stream first sides pair out).reply.pair (play_stream_floats_from_of bytes stream first sides pair out).out
  unfolding play_out
  floats_exact sides pair out a k q wide h =
      let played = stream_floats_played bytes stream ts sides e d a first pair out in
      let count : fit (float_mechanism bytes stream ts sides) (length out) (float_led bytes stream ts sides first pair) (drop first ts) ≡ k = sym (ap (λ (o : Outcome FloatAnswer Float). o.reply.answer.count) played) ∙ q in
      rw (stream_front bytes stream ts e d first wide k h, played, count)
      (exact_play (keeps stream) (channel_count (module_of bytes)) (samples_of (module_of bytes)) sides a (float_led bytes stream ts sides first pair) (take k (drop first ts)) (numbers_in_16 k) out)
