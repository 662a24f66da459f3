-- The machine that player and board share: a voice for each channel, the tempo of the tick before and the remainder that it left.
-- How long a tick is, its frames, and the machine after it.
-- It takes the number of channels and the samples by their number, and never the module.
-- Assumes nothing.
use Rattle.std.specs.Prelude.{ℕ, Bool, true, List, ℤ}
use Rattle.laws.specs.Ranges.{each}
use Rattle.common.specs.Limits.{width}
use Rattle.ticks.specs.declared.Tick.{Tick}
use Rattle.ticks.specs.Play.{Mechanism}
use Rattle.reader.specs.File.{Module, channel_count}
use Rattle.reader.specs.Samples.{Sample}
use Rattle.voice.specs.declared.Voice.{Voice}
use Rattle.voice.specs.Voice.{fresh_voice, samples_of}
use Rattle.voice.specs.Frames.{mixed, moved}
use Rattle.machine.specs.declared.Machine.{Machine}
use Rattle.machine.specs.Lengths.{carried_at, length_at, kept_at}

-- fresh: each voice stopped, its numbers 0, tempo 125, remainder 0
unfoldable pub fresh_machine : Machine
fresh_machine = record { voices = each (λ i. fresh_voice) width; tempo = 125; remainder = 0 }

-- ---- a tick
-- the remainder that it begins with
unfoldable pub begins : Machine → Tick → ℕ
begins w t = carried_at w.tempo w.remainder t.tempo

-- how many frames it has
unfoldable pub tick_length : Machine → Tick → ℕ
tick_length w t = length_at t.tempo (begins w t)

-- its frames
unfoldable pub frames : ℕ → (ℕ → Sample) → Machine → Tick → List ℤ
frames channels samples w t = mixed channels samples w.voices t.commands (tick_length w t)

-- a machine with these voices after a tick that began with a remainder: it keeps the tick's remainder or, by the old rule, none
abbrev pub rested_at : List Voice → Bool → ℕ → ℕ → Machine
rested_at voices keeps tempo remainder = record { voices = voices; tempo = tempo; remainder = kept_at keeps tempo remainder }

-- the machine after it
unfoldable pub after : Bool → ℕ → (ℕ → Sample) → Machine → Tick → Machine
after keeps channels samples w t = rested_at (moved channels samples w.voices t.commands (tick_length w t)) keeps t.tempo (begins w t)

-- how it plays ticks
abbrev pub mechanism : Bool → ℕ → (ℕ → Sample) → Mechanism ℤ Machine Tick
mechanism keeps channels samples = record { frames = frames channels samples; after = after keeps channels samples }

-- how a module's ticks are played
abbrev pub mechanism_of : Module → Mechanism ℤ Machine Tick
mechanism_of m = mechanism true (channel_count m) (samples_of m)
