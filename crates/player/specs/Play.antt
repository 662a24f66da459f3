-- Playing: the ticks of the sequencer from a state, as many as fit, on the machine.
-- Assumes nothing.
use Rattle.std.specs.Prelude.{ℕ, List, [], length, ℤ, slice_index_or}
use Rattle.laws.specs.Ranges.{each}
use Rattle.common.specs.Answers.{refused, accepted, Outcome, outcome, refusing}
use Rattle.common.specs.Limits.{width}
use Rattle.ticks.specs.declared.Tick.{Tick}
use Rattle.ticks.specs.Play.{rendered, fit, after_fit, play_out}
use Rattle.reader.specs.File.{Module, module_of}
use Rattle.sequencer.specs.Runs.{ticks_from, song_after}
use Rattle.voice.specs.declared.Voice.{Voice}
use Rattle.voice.specs.Frames.{blank}
use Rattle.machine.specs.declared.Machine.{Machine}
use Rattle.machine.specs.Machine.{mechanism_of}
use Rattle.player.specs.declared.State.{State}
use Rattle.player.specs.declared.Reply.{Reply}
use Rattle.player.specs.State.{state_lines, reply}

-- the sounding sample numbers of the voices
unfoldable pub soundings : List Voice → List ℕ
soundings vs = each (λ i. (slice_index_or vs i blank).sample) width

-- n ticks from a state
abbrev pub ticks_of : Module → ℕ → State → List Tick
ticks_of m n s = ticks_from m n s.song (soundings s.voices)

-- the state's machine: the song's tempo is the tick before's
abbrev pub machine_of : State → Machine
machine_of s = record { voices = s.voices; tempo = s.song.time.tempo; remainder = s.remainder }

-- the state after k ticks of the song, with this machine
abbrev pub state_after : Module → ℕ → State → Machine → State
state_after m k s w = record { song = song_after m k s.song (soundings s.voices); voices = w.voices; remainder = w.remainder }

-- the largest number of whole ticks, up to n, whose frames fit
abbrev pub count_of : Module → ℕ → State → List ℤ → ℕ
count_of m n s out = fit (mechanism_of m) (length out) (machine_of s) (ticks_of m n s)

-- that count, the state after so many ticks, and their frames over the buffer, whose rest stays
unfoldable pub played_from : Module → State → ℕ → List ℤ → Outcome Reply ℤ
played_from m s n out =
    outcome
    (reply (accepted (count_of m n s out)) (state_after m (count_of m n s out) s (after_fit (mechanism_of m) (length out) (machine_of s) (ticks_of m n s))))
    (play_out (mechanism_of m) (machine_of s) (ticks_of m n s) out)

-- the call: a refusal leaves state and buffer
unfoldable pub play_of : List ℕ → State → ℕ → List ℤ → Outcome Reply ℤ
play_of bytes s n out =
    refusing (λ number place. outcome (reply (refused number place) s) out) (played_from (module_of bytes) s n out) (state_lines (module_of bytes) s [])

-- ---- the sound
-- the numbers of k ticks from a state
abbrev pub numbers_of : Module → ℕ → State → List ℤ
numbers_of m k s = rendered (mechanism_of m) (machine_of s) (ticks_of m k s)
