-- The machine that plays floats, beside the one that plays 16-bit frames: the same machine is in it (`same_machine`), its numbers are the delivered ones of the
-- same frames (`same_numbers`), and it counts the ticks of the call (`same_count`). A tick takes so many numbers for each of its frames as the page has sides.
-- Assumes nothing.
use Rattle.std.specs.Prelude.{ℕ, suc, ◌+◌, ◌-◌, ◌*◌, ◌≤◌, ◌≡◌, Bool, leb, ℤ, take, Float}
use Rattle.std.proofs.Math.Path.{refl, sym, ap}
use Rattle.std.proofs.Common.{◌∙◌, add-zero}
use Rattle.std.proofs.Math.Bool.{cond}
use mathlib.Core.List.{List, [], ◌∷◌, ◌++◌}
use native.Mathlib.Omega.{arith}
use Rattle.std.proofs.Math.ListN.{length}
use Rattle.ticks.specs.declared.Tick.{Tick}
use Rattle.ticks.specs.Play.{Mechanism, after_all, rendered, fit, play_out}
use Rattle.reader.specs.Samples.{Sample}
use Rattle.machine.specs.declared.Machine.{Machine}
use Rattle.machine.specs.Machine.{tick_length, mechanism}
use Rattle.machine.specs.Drift.{sized}
use Rattle.machine.specs.Carries.{Holds}
use Rattle.floats.specs.Frames.{floats_of}
use Rattle.floats.specs.Lengths.{floats_size, floats_append}
use Rattle.float_machine.specs.Machine.{FloatMachine}
use Rattle.float_machine.specs.Machine.{float_frames, float_after, floats_by}

module _ (sides : ℕ) (keeps : Bool) (c : ℕ) (samples : ℕ → Sample) where
  -- a tick has so many numbers for each frame as the page has sides
  pub float_sized : 1 ≤ sides → sides ≤ 2 → (w : FloatMachine) (t : Tick) → length (float_frames (mechanism keeps c samples) sides w t) ≡ sides * tick_length w.machine t
  unfolding float_frames
  float_sized l h w t = floats_size sides l h (tick_length w.machine t) _ (sized c samples w.machine t)

  -- a tick moves the machine in it as it moves that machine alone
  pub floats_hold : Holds (floats_by sides (mechanism keeps c samples)) (λ w. w.machine) keeps c samples
  unfolding float_after
  floats_hold = record { moves = λ w t. refl }

  -- the numbers of ticks are those of their frames as they are delivered: so where the frames of two players agree, these do
  pub same_numbers : (w : FloatMachine) (ts : List Tick) → rendered (floats_by sides (mechanism keeps c samples)) w ts ≡ floats_of sides (rendered (mechanism keeps c samples) w.machine ts)
  unfolding rendered float_frames float_after floats_of
  same_numbers w [] = refl
  same_numbers w (t ∷ ts) =
      let k = mechanism keeps c samples in
      let xs = k.frames w.machine t in
      ap (λ (zs : List Float). floats_of sides xs ++ zs) (same_numbers (float_after k w t) ts)
      ∙ sym (floats_append sides (tick_length w.machine t) xs (rendered k (k.after w.machine t) ts) (sized c samples w.machine t))

module _ (sides : ℕ) (k : Mechanism ℤ Machine Tick) where
  pub same_machine : (w : FloatMachine) (ts : List Tick) → (after_all (floats_by sides k) w ts).machine ≡ after_all k w.machine ts
  unfolding after_all float_after
  same_machine w [] = refl
  same_machine w (t ∷ ts) = same_machine (float_after k w t) ts

  pub same_count : (w : FloatMachine) (ts : List Tick) → (after_all (floats_by sides k) w ts).next ≡ w.next + length ts
  unfolding after_all float_after
  same_count w [] = sym (add-zero w.next)
  same_count w (t ∷ ts) = same_count (float_after k w t) ts ∙ omega arith

  -- how many ticks fit does not depend on the record
  pub same_fit : (room : ℕ) (w v : FloatMachine) (ts : List Tick) → w.machine ≡ v.machine → fit (floats_by sides k) room w ts ≡ fit (floats_by sides k) room v ts
  unfolding fit float_frames float_after
  same_fit room w v [] e = refl
  same_fit room w v (t ∷ ts) e =
      let n = length (floats_of sides (k.frames v.machine t)) in
      rw e (ap (λ (i : ℕ). cond (leb n room) (suc i) 0) (same_fit (room - n) _ _ ts refl))

-- nor do the numbers of the ticks that fit
pub same_out : (sides : ℕ) (keeps : Bool) (c : ℕ) (samples : ℕ → Sample) (w v : FloatMachine) (ts : List Tick) (out : List Float) → w.machine ≡ v.machine
    → play_out (floats_by sides (mechanism keeps c samples)) w ts out ≡ play_out (floats_by sides (mechanism keeps c samples)) v ts out
unfolding play_out
same_out sides keeps c samples w v ts out e =
    let k = floats_by sides (mechanism keeps c samples) in
    rw (same_fit sides (mechanism keeps c samples) (length out) w v ts e, same_numbers sides keeps c samples w (take (fit k (length out) v ts) ts), same_numbers sides keeps c samples v (take (fit k (length out) v ts) ts), e)
