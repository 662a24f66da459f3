-- The stream player: a stream's ticks on stopped voices, from any tick on, as many as fit into the output.
-- It takes the samples with their lengths and loops, and never the module: that is judged, and lends its samples.
-- Assumes nothing.
use Rattle.std.specs.Prelude.{ℕ, Bool, List, [], ◌∷◌, ℤ, length, take, drop}
use Rattle.common.specs.Answers.{refused, accepted, Outcome, outcome, refusing}
use Rattle.common.specs.declared.Answer.{Answer}
use Rattle.ticks.specs.declared.Tick.{Tick}
use Rattle.ticks.specs.Play.{after_all, fit, play_out}
use Rattle.reader.specs.File.{module_of, sample_count, channel_count}
use Rattle.reader.specs.Judge.{module_line}
use Rattle.reader.specs.Samples.{Sample}
use Rattle.voice.specs.Voice.{samples_of}
use Rattle.machine.specs.declared.Machine.{Machine}
use Rattle.machine.specs.Machine.{fresh_machine, mechanism}
use Rattle.records.specs.Format.{keeps, Decoded, refusal, ticks, decode}

-- it begins with stopped voices and remainder 0, and keeps a remainder or none: the machine before tick `first`, counted from 0
unfoldable pub led_to : Bool → ℕ → (ℕ → Sample) → ℕ → List Tick → Machine
led_to keeping channels samples first ts = after_all (mechanism keeping channels samples) fresh_machine (take first ts)

-- the ticks from there on: the largest number of whole ticks whose frames fit, and their frames; the rest of the buffer stays
unfoldable pub played_ticks : Bool → ℕ → (ℕ → Sample) → ℕ → List Tick → List ℤ → Outcome Answer ℤ
played_ticks keeping channels samples first ts out =
    outcome (accepted (fit (mechanism keeping channels samples) (length out) (led_to keeping channels samples first ts) (drop first ts)))
    (play_out (mechanism keeping channels samples) (led_to keeping channels samples first ts) (drop first ts) out)

-- 21, 22, 28 and 23, where the buffer stays; otherwise the stream's ticks
unfoldable pub played_by : Bool → ℕ → (ℕ → Sample) → ℕ → Decoded → List ℤ → Outcome Answer ℤ
played_by keeping channels samples first (refusal number place) out = outcome (refused number place) out
played_by keeping channels samples first (ticks ts) out = played_ticks keeping channels samples first ts out

-- for samples to the last and so many channels; version 1 streams play by the old rule
abbrev pub board_of : ℕ → ℕ → (ℕ → Sample) → ℕ → List ℕ → List ℤ → Outcome Answer ℤ
board_of last channels samples first stream out = played_by (keeps stream) channels samples first (decode last channels stream) out

-- the call from tick `first` on: 1 to 9 come first
unfoldable pub play_stream_from_of : List ℕ → List ℕ → ℕ → List ℤ → Outcome Answer ℤ
play_stream_from_of bytes stream first out =
    refusing (λ number place. outcome (refused number place) out)
    (board_of (sample_count (module_of bytes)) (channel_count (module_of bytes)) (samples_of (module_of bytes)) first stream out)
    (module_line (module_of bytes) ∷ [])

-- the call that plays a stream from its beginning
abbrev pub play_stream_of : List ℕ → List ℕ → List ℤ → Outcome Answer ℤ
play_stream_of bytes stream out = play_stream_from_of bytes stream 0 out
