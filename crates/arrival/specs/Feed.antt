-- A board that takes its stream as it arrives, on any machine: it is itself a machine, whose ticks are bytes. So `ticks` has its fitting rule: a byte
-- that completes a record takes the tick's numbers, and isn't taken where they do not fit; every other byte takes none.
-- How the machine plays ticks goes by the stream's version. Assumes nothing.
use Rattle.std.specs.Prelude.{ℕ, List, []}
use Rattle.ticks.specs.declared.Command.{Command}
use Rattle.ticks.specs.declared.Tick.{Tick}
use Rattle.ticks.specs.Play.{Mechanism}
use Rattle.arrival.specs.declared.Arrival.{Arrival}
use Rattle.arrival.specs.Arrive.{Step, holds, plays, step}

-- how far the stream has arrived, and the machine
pub record Fed (W : Type 0) : Type 0 where
  pub arrival : Arrival
  pub machine : W

abbrev pub fed : {W : Type 0} → Arrival → W → Fed W
fed p v = record { arrival = p; machine = v }

-- samples to the last, so many channels; the registers that a machine holds, and how it plays ticks under each version
module _ {A W : Type 0} (last c : ℕ) (registers_of : W → List Command) (k : ℕ → Mechanism A W Tick) where
  -- what a byte does to a board
  abbrev pub step_of : Fed W → ℕ → Step
  step_of w b = step last c (registers_of w.machine) w.arrival b

  unfoldable pub step_frames : Fed W → Step → List A
  step_frames w (holds p) = []
  step_frames w (plays t p) = (k w.arrival.version).frames w.machine t

  unfoldable pub step_after : Fed W → Step → Fed W
  step_after w (holds p) = fed p w.machine
  step_after w (plays t p) = fed p ((k w.arrival.version).after w.machine t)

  abbrev pub feeding : Mechanism A (Fed W) ℕ
  feeding = record { frames = λ w b. step_frames w (step_of w b); after = λ w b. step_after w (step_of w b) }
