-- What the call that plays a stream from a tick on leaves, for an accepted module and an accepted stream: its count is the largest that fits (`stream_fits`, `stream_most`), its buffer
-- holds the numbers of so many ticks (`stream_out`), and where remainders are kept these do not drift (`board_no_drift`).
-- Assumes nothing.
use Rattle.std.specs.Prelude.{ℕ, ◌*◌, ◌/◌, ◌≤◌, ◌≡◌, refl, Bool, true, List, ℤ, length, take, drop}
use Rattle.std.proofs.Common.{ap, ◌∙◌, length-take-le, eq-eqb}
use Rattle.common.specs.Answers.{accepted, outcome, refusing}
use Rattle.common.specs.Limits.{least_tempo, greatest_tempo}
use Rattle.common.specs.LimitFacts.{Between}
use Rattle.ticks.specs.declared.Tick.{Tick}
use Rattle.ticks.specs.Play.{over, Mechanism, after_all, rendered, fit, play_out}
use Rattle.ticks.specs.PlayLaws.{fit_fits, fit_most, play_front}
use Rattle.reader.specs.File.{module_of, sample_count, channel_count}
use Rattle.reader.specs.Judge.{verdict}
use Rattle.reader.specs.Samples.{Sample}
use Rattle.voice.specs.Voice.{samples_of}
use Rattle.voice.specs.Frames.{frame_numbers}
use Rattle.machine.specs.declared.Machine.{Machine}
use Rattle.machine.specs.Lengths.{tick_frames}
use Rattle.machine.specs.Machine.{fresh_machine, mechanism}
use Rattle.machine.specs.Drift.{AtTempo, no_drift}
use Rattle.records.specs.Format.{keeps, ticks, decode}
use Rattle.board.specs.Board.{led_to, played_ticks, played_by, play_stream_from_of}

module _ (bytes stream : List ℕ) (ts : List Tick) where
  -- how the stream's ticks are played with the module's channels and samples
  abbrev pub stream_mechanism : Mechanism ℤ Machine Tick
  stream_mechanism = mechanism (keeps stream) (channel_count (module_of bytes)) (samples_of (module_of bytes))

  -- the machine before tick `first`
  abbrev pub stream_led : ℕ → Machine
  stream_led first = led_to (keeps stream) (channel_count (module_of bytes)) (samples_of (module_of bytes)) first ts

  -- the numbers of k ticks from tick `first` on
  abbrev pub stream_numbers : ℕ → ℕ → List ℤ
  stream_numbers first k = rendered stream_mechanism (stream_led first) (take k (drop first ts))

  module _ (e : (verdict (module_of bytes)).number ≡ 0) (d : decode (sample_count (module_of bytes)) (channel_count (module_of bytes)) stream ≡ ticks ts) (first : ℕ) (out : List ℤ) where
    -- the call is accepted, and plays the stream's ticks
    pub stream_played : play_stream_from_of bytes stream first out ≡ outcome (accepted (fit stream_mechanism (length out) (stream_led first) (drop first ts))) (play_out stream_mechanism (stream_led first) (drop first ts) out)
    unfolding play_stream_from_of refusing played_by played_ticks
    stream_played = rw (eq-eqb (verdict (module_of bytes)).number 0 e, d)

    pub stream_count : (play_stream_from_of bytes stream first out).reply.count ≡ fit stream_mechanism (length out) (stream_led first) (drop first ts)
    stream_count = ap (λ o. o.reply.count) stream_played

    -- the buffer has the numbers of as many ticks as the count in front, the rest as it stood
    pub stream_out : (play_stream_from_of bytes stream first out).out ≡ over (stream_numbers first (play_stream_from_of bytes stream first out).reply.count) out
    unfolding play_out
    stream_out = rw (stream_count, stream_played)

    -- so that it begins with the numbers of the first k ticks from there on, for every k up to the count
    pub stream_front : (k : ℕ) → k ≤ (play_stream_from_of bytes stream first out).reply.count → take (length (stream_numbers first k)) (play_stream_from_of bytes stream first out).out ≡ stream_numbers first k
    stream_front k h = rw stream_played (play_front stream_mechanism (stream_led first) (drop first ts) out k (rw stream_count at h))

    -- they fit
    pub stream_fits : length (stream_numbers first (play_stream_from_of bytes stream first out).reply.count) ≤ length out
    stream_fits = rw stream_count (fit_fits stream_mechanism (length out) (stream_led first) (drop first ts))

    -- and no larger number of the ticks that are left does
    pub stream_most : (k : ℕ) → k ≤ length (drop first ts) → length (stream_numbers first k) ≤ length out → k ≤ (play_stream_from_of bytes stream first out).reply.count
    stream_most k h p = rw stream_count (fit_most stream_mechanism (length out) (stream_led first) (drop first ts) k h p)

-- ---- no drift
-- before a stream's first tick the remainder is 0
pub first_rest : (keeping : Bool) (c : ℕ) (samples : ℕ → Sample) (ts : List Tick) → (led_to keeping c samples 0 ts).remainder ≡ 0
unfolding led_to after_all fresh_machine
first_rest keeping c samples ts = refl

-- where a stream keeps remainders, and before tick `first` there is none, k ticks from there on that are all at one tempo have exactly (120,000 × k) div tempo frames
pub board_no_drift : (bytes stream : List ℕ) (ts : List Tick) (first k tempo : ℕ) → keeps stream ≡ true → (led_to true (channel_count (module_of bytes)) (samples_of (module_of bytes)) first ts).remainder ≡ 0 → k ≤ length (drop first ts) → Between least_tempo greatest_tempo tempo → AtTempo tempo (take k (drop first ts))
    → length (stream_numbers bytes stream ts first k) ≡ frame_numbers * ((tick_frames * k) / tempo)
board_no_drift bytes stream ts first k tempo kept z h b all =
    rw kept (no_drift (channel_count (module_of bytes)) (samples_of (module_of bytes)) tempo b (take k (drop first ts)) all _ z)
    ∙ ap (λ (n : ℕ). frame_numbers * ((tick_frames * n) / tempo)) (length-take-le k (drop first ts) h)
