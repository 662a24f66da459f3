-- The machine that plays floats delivers exact ones (`exact_play`): for the numbers of the same ticks on the machine that plays 16-bit frames, its buffer and its record.
-- Assumes nothing.
use Rattle.std.specs.Prelude.{ℕ, ◌≡◌, Bool, false, Float}
use Rattle.std.proofs.Math.Path.{refl}
use mathlib.Core.List.{List, [], ◌∷◌}
use Rattle.std.proofs.Common.{arith}
use Rattle.std.proofs.Math.ListN.{length-append}
use Rattle.ticks.specs.declared.Tick.{Tick}
use Rattle.ticks.specs.Play.{over, after_all, rendered}
use Rattle.reader.specs.Samples.{Sample}
use Rattle.machine.specs.declared.Machine.{Machine}
use Rattle.machine.specs.Machine.{frames, after, mechanism}
use Rattle.machine.specs.Drift.{sized}
use Rattle.floats.specs.Frames.{unasked}
use Rattle.floats.specs.Delivered.{In16, Whole, ExactPlay, LastIs, delivered_exact, last_none, last_append, last_is, last_exact}
use Rattle.float_machine.specs.Machine.{FloatMachine}
use Rattle.float_machine.specs.Machine.{float_after, floats_by}
use Rattle.float_machine.specs.Beside.{same_numbers}

module _ (keeps : Bool) (c : ℕ) (samples : ℕ → Sample) where
  -- ticks have whole frames
  rendered_whole : (w : Machine) (ts : List Tick) → Whole (rendered (mechanism keeps c samples) w ts)
  unfolding rendered
  rendered_whole w [] = refl
  rendered_whole w (t ∷ ts) =
      let next = after keeps c samples w t in
      let l = length-append (frames c samples w t) (rendered (mechanism keeps c samples) next ts) in
      omega (arith, l, sized c samples w t, rendered_whole next ts)

  -- the record after ticks has the last left and right of their numbers
  rendered_last : (sides : ℕ) (w : FloatMachine) (ts : List Tick) → LastIs (rendered (mechanism keeps c samples) w.machine ts) w.last (after_all (floats_by sides (mechanism keeps c samples)) w ts).last
  unfolding rendered after_all float_after
  rendered_last sides w [] = last_none w.last
  rendered_last sides w (t ∷ ts) =
      let k = mechanism keeps c samples in
      let next = float_after k w t in
      last_append (frames c samples w.machine t) (rendered k next.machine ts) w.last next.last _ (rendered_whole next.machine ts)
      (last_is w.next w.last (frames c samples w.machine t) (omega (arith, sized c samples w.machine t)))
      (rendered_last sides next ts)

  -- the numbers of ticks, where they are in 16 bits: their floats over a buffer, for one side or two, and the record after them
  pub exact_play : (sides : ℕ) → unasked sides ≡ false → (w : FloatMachine) (ts : List Tick) → In16 (rendered (mechanism keeps c samples) w.machine ts) → (out : List Float)
      → ExactPlay sides (rendered (mechanism keeps c samples) w.machine ts) w.last (after_all (floats_by sides (mechanism keeps c samples)) w ts).last (over (rendered (floats_by sides (mechanism keeps c samples)) w ts) out)
  exact_play sides a w ts h out =
      let xs = rendered (mechanism keeps c samples) w.machine ts in
      record {
        floats = rw (same_numbers sides keeps c samples w ts) (delivered_exact sides a xs (rendered_whole w.machine ts) h _);
        last = last_exact xs h w.last _ (rendered_last sides w ts);
      }
