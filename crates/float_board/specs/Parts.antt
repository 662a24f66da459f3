-- A stream in parts, as floats: a call that plays as many ticks as its buffer holds, and then one from the next tick on, count and write what one call does (`stream_floats_add`).
-- Assumes nothing.
use Rattle.std.specs.Prelude.{ℕ, ◌+◌, ◌≤◌, ◌≡◌, false, List, length, take, drop, Float}
use Rattle.std.proofs.Common.{sym, ap, ◌∙◌, drop-drop, eq-eqb}
use Rattle.common.specs.Answers.{accepted, Outcome, outcome, refusing}
use Rattle.common.specs.declared.Answer.{Answer}
use Rattle.ticks.specs.declared.Tick.{Tick}
use Rattle.ticks.specs.Play.{Mechanism, after_all, fit, after_fit, play_out}
use Rattle.ticks.proofs.PlayParts.{fit_parts, play_parts}
use Rattle.reader.specs.File.{module_of, sample_count, channel_count}
use Rattle.reader.specs.Judge.{verdict}
use Rattle.voice.specs.Voice.{samples_of}
use Rattle.floats.specs.declared.Pair.{Pair}
use Rattle.floats.specs.Frames.{unasked, floats_of}
use Rattle.float_machine.specs.Machine.{FloatMachine}
use Rattle.float_machine.specs.Beside.{same_numbers, same_machine, same_fit, same_out}
use Rattle.records.specs.Format.{keeps, ticks, decode}
use Rattle.board.specs.Counts.{stream_mechanism, stream_numbers}
use Rattle.board.specs.Parts.{joined, part_goes_on}
use Rattle.float_board.specs.declared.FloatAnswer.{FloatAnswer}
use Rattle.float_board.specs.Board.{float_answer, floats_on, floats_led, played_floats, floats_board_by, play_stream_floats_from_of}

-- what a call answers and leaves beside its record
abbrev pub heard : Outcome FloatAnswer Float → Outcome Answer Float
heard o = outcome o.reply.answer o.out

module _ (bytes stream : List ℕ) (ts : List Tick) (sides : ℕ) where
  -- how the stream's ticks are played as floats with the module's channels and samples
  abbrev pub float_mechanism : Mechanism Float FloatMachine Tick
  float_mechanism = floats_on (keeps stream) (channel_count (module_of bytes)) (samples_of (module_of bytes)) sides

  -- the machine before tick `first`, with a record
  abbrev pub float_led : ℕ → Pair → FloatMachine
  float_led first pair = floats_led (keeps stream) (channel_count (module_of bytes)) (samples_of (module_of bytes)) first ts pair

  -- the numbers of k ticks from tick `first` on: those of their frames, delivered
  abbrev pub stream_floats : ℕ → ℕ → List Float
  stream_floats first k = floats_of sides (stream_numbers bytes stream ts first k)

  module _ (e : (verdict (module_of bytes)).number ≡ 0) (d : decode (sample_count (module_of bytes)) (channel_count (module_of bytes)) stream ≡ ticks ts) (a : unasked sides ≡ false) where
    -- the call is accepted, and plays the stream's ticks
    pub stream_floats_played : (first : ℕ) (pair : Pair) (out : List Float) → play_stream_floats_from_of bytes stream first sides pair out
        ≡ outcome (float_answer (accepted (fit float_mechanism (length out) (float_led first pair) (drop first ts))) (after_fit float_mechanism (length out) (float_led first pair) (drop first ts)).last) (play_out float_mechanism (float_led first pair) (drop first ts) out)
    unfolding play_stream_floats_from_of refusing floats_board_by played_floats
    stream_floats_played first pair out = rw (eq-eqb (verdict (module_of bytes)).number 0 e, a, d)

    module _ (first : ℕ) (pair later : Pair) (part out : List Float) (h : length part ≤ length out) where
      abbrev count : ℕ
      count = fit float_mechanism (length part) (float_led first pair) (drop first ts)

      -- where the part ends
      abbrev ended : FloatMachine
      ended = after_all float_mechanism (float_led first pair) (take count (drop first ts))

      -- the next begins, with any record
      goes_on : ended.machine ≡ (float_led (first + count) later).machine
      goes_on = same_machine sides (stream_mechanism bytes stream ts) (float_led first pair) (take count (drop first ts)) ∙ sym (part_goes_on (keeps stream) _ _ ts first count).0

      -- the ticks of the second part, on the machine that the first one leaves and with any record: as many, and the same numbers
      rest_count : (room : ℕ) → fit float_mechanism room ended (drop count (drop first ts)) ≡ fit float_mechanism room (float_led (first + count) later) (drop (first + count) ts)
      rest_count room =
          same_fit sides (stream_mechanism bytes stream ts) room ended (float_led (first + count) later) (drop count (drop first ts)) goes_on
          ∙ ap (fit float_mechanism room (float_led (first + count) later)) (drop-drop count first ts)

      rest_out : (buffer : List Float) → play_out float_mechanism ended (drop count (drop first ts)) buffer ≡ play_out float_mechanism (float_led (first + count) later) (drop (first + count) ts) buffer
      rest_out buffer =
          same_out sides (keeps stream) (channel_count (module_of bytes)) (samples_of (module_of bytes)) ended (float_led (first + count) later) (drop count (drop first ts)) buffer goes_on
          ∙ ap (λ (us : List Tick). play_out float_mechanism (float_led (first + count) later) us buffer) (drop-drop count first ts)

      -- a call from tick `first` on into any buffer that is no longer, and then a call from the tick after its last on into the rest of the buffer, with any records, count and write
      -- what one call into the buffer does
      pub stream_floats_add : heard (play_stream_floats_from_of bytes stream first sides pair out)
          ≡ joined (length (stream_floats first (play_stream_floats_from_of bytes stream first sides pair part).reply.answer.count)) (heard (play_stream_floats_from_of bytes stream first sides pair part))
          (heard (play_stream_floats_from_of bytes stream (first + (play_stream_floats_from_of bytes stream first sides pair part).reply.answer.count) sides later (drop (length (stream_floats first (play_stream_floats_from_of bytes stream first sides pair part).reply.answer.count)) out)))
      stream_floats_add =
          let rest = drop (length (stream_floats first count)) out in
          rw (
            stream_floats_played first pair out,
            stream_floats_played first pair part,
            stream_floats_played (first + count) later rest,
            fit_parts float_mechanism (float_led first pair) (drop first ts) part out h,
            play_parts float_mechanism (float_led first pair) (drop first ts) part out h,
            same_numbers sides (keeps stream) (channel_count (module_of bytes)) (samples_of (module_of bytes)) (float_led first pair) (take count (drop first ts)),
            rest_count (length rest),
            rest_out rest,
          )
