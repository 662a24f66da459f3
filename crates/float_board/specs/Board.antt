-- The stream player as floats: a stream's ticks on stopped voices, from any tick on, as many as fit into the output, on the machine that plays floats.
-- It takes the samples with their lengths and loops, and never the module: that is judged, and lends its samples.
-- Assumes nothing.
use Rattle.std.specs.Prelude.{ℕ, Result, Ok, Err, Bool, List, [], ◌∷◌, length, drop, Float}
use Rattle.common.specs.Answers.{refused, accepted, Outcome, outcome, line, refusing, refusal}
use Rattle.common.specs.declared.Answer.{Answer}
use Rattle.common.specs.declared.refusals.Refusal.{Refusal}
use Rattle.ticks.specs.declared.Tick.{Tick}
use Rattle.ticks.specs.Play.{Mechanism, fit, after_fit, play_out}
use Rattle.reader.specs.File.{module_of, sample_count, channel_count}
use Rattle.reader.specs.Judge.{module_line}
use Rattle.reader.specs.Samples.{Sample}
use Rattle.voice.specs.Voice.{samples_of}
use Rattle.machine.specs.Machine.{mechanism}
use Rattle.floats.specs.declared.Pair.{Pair}
use Rattle.floats.specs.Frames.{unasked}
use Rattle.float_machine.specs.Machine.{FloatMachine}
use Rattle.float_machine.specs.Machine.{float_machine, floats_by}
use Rattle.records.specs.Format.{keeps, Decoded, ticks, decode}
use Rattle.records.specs.Format.Decoded.{refusal as refused_at}
use Rattle.board.specs.Board.{led_to}
use Rattle.float_board.specs.declared.FloatAnswer.{FloatAnswer}

-- an answer, and the record after the call
abbrev pub float_answer : Answer → Pair → FloatAnswer
float_answer answer pair = record { answer = answer; pair = pair }

-- what a call came to: a refusal leaves the record
abbrev pub floats_answered : Pair → Result FloatAnswer Refusal → FloatAnswer
floats_answered pair (Ok a) = a
floats_answered pair (Err e) = float_answer (refusal e) pair

-- how the stream's ticks are played as floats
abbrev pub floats_on : Bool → ℕ → (ℕ → Sample) → ℕ → Mechanism Float FloatMachine Tick
floats_on keeping channels samples sides = floats_by sides (mechanism keeping channels samples)

-- the machine before tick `first`, with the record that the call was given
abbrev pub floats_led : Bool → ℕ → (ℕ → Sample) → ℕ → List Tick → Pair → FloatMachine
floats_led keeping channels samples first ts pair = float_machine (led_to keeping channels samples first ts) pair

-- the ticks from there on: the largest number of whole ticks whose numbers fit, their last left and right with the tick in the call, and their numbers; the rest of the
-- buffer stays
unfoldable pub played_floats : Bool → ℕ → (ℕ → Sample) → ℕ → List Tick → ℕ → Pair → List Float → Outcome FloatAnswer Float
played_floats keeping channels samples first ts sides pair out =
    outcome
    (float_answer (accepted (fit (floats_on keeping channels samples sides) (length out) (floats_led keeping channels samples first ts pair) (drop first ts))) (after_fit (floats_on keeping channels samples sides) (length out) (floats_led keeping channels samples first ts pair) (drop first ts)).last)
    (play_out (floats_on keeping channels samples sides) (floats_led keeping channels samples first ts pair) (drop first ts) out)

-- 21, 22, 28 and 23, where record and buffer stay; otherwise the stream's ticks
unfoldable pub floats_board_by : Bool → ℕ → (ℕ → Sample) → ℕ → Decoded → ℕ → Pair → List Float → Outcome FloatAnswer Float
floats_board_by keeping channels samples first (refused_at number place) sides pair out = outcome (float_answer (refused number place) pair) out
floats_board_by keeping channels samples first (ticks ts) sides pair out = played_floats keeping channels samples first ts sides pair out

-- for samples to the last and so many channels; version 1 streams play by the old rule
abbrev pub float_board_of : ℕ → ℕ → (ℕ → Sample) → ℕ → List ℕ → ℕ → Pair → List Float → Outcome FloatAnswer Float
float_board_of last channels samples first stream sides pair out = floats_board_by (keeps stream) channels samples first (decode last channels stream) sides pair out

-- the call from tick `first` on: 1 to 9 come first, then 24, asked sides not 1 or 2, and then what the stream is refused for
unfoldable pub play_stream_floats_from_of : List ℕ → List ℕ → ℕ → ℕ → Pair → List Float → Outcome FloatAnswer Float
play_stream_floats_from_of bytes stream first sides pair out =
    refusing (λ number place. outcome (float_answer (refused number place) pair) out)
    (float_board_of (sample_count (module_of bytes)) (channel_count (module_of bytes)) (samples_of (module_of bytes)) first stream sides pair out)
    (module_line (module_of bytes) ∷ line 24 (unasked sides) 0 ∷ [])

-- the call that plays a stream from its beginning
abbrev pub play_stream_floats_of : List ℕ → List ℕ → ℕ → Pair → List Float → Outcome FloatAnswer Float
play_stream_floats_of bytes stream sides pair out = play_stream_floats_from_of bytes stream 0 sides pair out
