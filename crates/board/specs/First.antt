-- How a stream begins, and which rule it goes by: its first record has remainder 0 whatever tempo stood before it (`first_tempo`), one of version 1 has
-- remainder 0 throughout (`old_throughout`), and the paper's two whole streams, of version 1, play (`first_played`).
-- Assumes nothing.
use Rattle.std.specs.Prelude.{ℕ, ◌*◌, ◌/◌, ◌≤◌, ◌≡◌, Bool, false, ℤ, length, take}
use Rattle.std.proofs.Math.Path.{refl}
use mathlib.Core.List.{List, [], ◌∷◌}
use Rattle.std.proofs.Common.{eq-eqb, le-leb}
use Rattle.common.specs.Answers.{accepted, outcome, refusing}
use Rattle.common.specs.Bytes.{byte_at}
use Rattle.ticks.specs.declared.Tick.{Tick}
use Rattle.ticks.specs.Play.{after_all, rendered, fit, play_out}
use Rattle.reader.specs.File.{module_of, channel_count}
use Rattle.reader.specs.Judge.{verdict}
use Rattle.reader.specs.Samples.{Sample}
use Rattle.voice.specs.Frames.{frame_numbers}
use Rattle.machine.specs.declared.Machine.{Machine}
use Rattle.machine.specs.Lengths.{tick_frames, carried_at, length_at}
use Rattle.machine.specs.Machine.{fresh_machine, begins, tick_length, mechanism}
use Rattle.machine.specs.Drift.{sized, first_frames, first_after, old_rest}
use Rattle.records.specs.Format.{version_place, first_version, keeps}
use Rattle.records.specs.Examples.{empty_stream, note_stream, first_streams}
use Rattle.board.specs.Board.{led_to, played_ticks, played_by, play_stream_from_of, play_stream_of}

-- ---- the tempo before the first tick does not matter
-- stopped voices, no remainder, and this tempo before
abbrev before : ℕ → Machine
before tempo = record { voices = fresh_machine.voices; tempo = tempo; remainder = 0 }

module _ (keeping : Bool) (c : ℕ) (samples : ℕ → Sample) (tempo other : ℕ) where
  fit_first : (room : ℕ) (ts : List Tick) → fit (mechanism keeping c samples) room (before tempo) ts ≡ fit (mechanism keeping c samples) room (before other) ts
  unfolding fit
  fit_first room [] = refl
  fit_first room (t ∷ ts) = rw (first_frames fresh_machine.voices tempo other t c samples, first_after fresh_machine.voices tempo other t keeping c samples)

  rendered_first : (ts : List Tick) → rendered (mechanism keeping c samples) (before tempo) ts ≡ rendered (mechanism keeping c samples) (before other) ts
  unfolding rendered
  rendered_first [] = refl
  rendered_first (t ∷ ts) = rw (first_frames fresh_machine.voices tempo other t c samples, first_after fresh_machine.voices tempo other t keeping c samples)

-- ticks are played as from any tempo
pub first_tempo : (keeping : Bool) (c : ℕ) (samples : ℕ → Sample) (tempo : ℕ) (ts : List Tick) (out : List ℤ)
    → played_ticks keeping c samples 0 ts out ≡ outcome (accepted (fit (mechanism keeping c samples) (length out) (before tempo) ts)) (play_out (mechanism keeping c samples) (before tempo) ts out)
unfolding played_ticks led_to after_all play_out fresh_machine
first_tempo keeping c samples tempo ts out =
    rw (fit_first keeping c samples tempo 125 (length out) ts, rendered_first keeping c samples tempo 125 (take (fit (mechanism keeping c samples) (length out) (before 125) ts) ts))

-- ---- version 1
rest_none : (c : ℕ) (samples : ℕ → Sample) (w : Machine) (ts : List Tick) → w.remainder ≡ 0 → (after_all (mechanism false c samples) w ts).remainder ≡ 0
unfolding after_all
rest_none c samples w [] e = e
rest_none c samples w (t ∷ ts) e = rest_none c samples ((mechanism false c samples).after w t) ts (old_rest c samples w t)

-- however many ticks are played, remainder 0 is left
pub old_throughout : (c : ℕ) (samples : ℕ → Sample) (s : List ℕ) → byte_at s version_place ≡ first_version → (ts : List Tick) → (after_all (mechanism (keeps s) c samples) fresh_machine ts).remainder ≡ 0
unfolding keeps fresh_machine
old_throughout c samples s e ts = rw (eq-eqb (byte_at s version_place) first_version e) (rest_none c samples fresh_machine ts refl)

-- the paper's two whole streams are accepted with any module of four channels, and their tick is played where its 960 frames fit
pub first_played : (bytes : List ℕ) (out : List ℤ) → (verdict (module_of bytes)).number ≡ 0 → channel_count (module_of bytes) ≡ 4 → frame_numbers * (tick_frames / 125) ≤ length out
    → ((play_stream_of bytes (empty_stream 0x01) out).reply ≡ accepted 1) × ((play_stream_of bytes (note_stream 0x01) out).reply ≡ accepted 1)
unfolding play_stream_from_of refusing played_by played_ticks led_to after_all fit tick_length begins carried_at length_at fresh_machine
first_played bytes out e c h =
    let fits = le-leb (frame_numbers * (tick_frames / 125)) (length out) h in
    (rw (eq-eqb (verdict (module_of bytes)).number 0 e, c, first_streams.0, sized, fits), rw (eq-eqb (verdict (module_of bytes)).number 0 e, c, first_streams.1, sized, fits))
