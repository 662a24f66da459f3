-- The machine that plays floats: a machine that plays 16-bit frames, the record of the last left and right, and the number of the next tick in the call.
-- It plays what that machine plays, each frame as it is delivered for a page of one side or two.
-- Assumes nothing.
use Rattle.std.specs.Prelude.{ℕ, ◌+◌, List, ℤ, Float}
use Rattle.ticks.specs.declared.Tick.{Tick}
use Rattle.ticks.specs.Play.{Mechanism}
use Rattle.machine.specs.declared.Machine.{Machine}
use Rattle.floats.specs.declared.Pair.{Pair}
use Rattle.floats.specs.Frames.{floats_of, last_of}

pub record FloatMachine : Type 0 where
  pub machine : Machine
  pub last : Pair
  pub next : ℕ

abbrev pub float_state : Machine → Pair → ℕ → FloatMachine
float_state w last next = record { machine = w; last = last; next = next }

-- before a call's first tick, which has number 0: the machine, and the record that the call was given
abbrev pub float_machine : Machine → Pair → FloatMachine
float_machine w last = float_state w last 0

module _ (k : Mechanism ℤ Machine Tick) where
  -- a tick's numbers: its frames as they are delivered
  unfoldable pub float_frames : ℕ → FloatMachine → Tick → List Float
  float_frames sides w t = floats_of sides (k.frames w.machine t)

  -- the machine after it, with its last left and right and its number in the call
  unfoldable pub float_after : FloatMachine → Tick → FloatMachine
  float_after w t = float_state (k.after w.machine t) (last_of w.next w.last (k.frames w.machine t)) (w.next + 1)

-- how it plays ticks, for a page of so many sides
abbrev pub floats_by : ℕ → Mechanism ℤ Machine Tick → Mechanism Float FloatMachine Tick
floats_by sides k = record { frames = float_frames k sides; after = float_after k }
