-- A tick by its length: laws over plain variables.
-- Assumes nothing.
use Prim.Native.Nat.{ℕ, ◌+◌, ◌*◌, ◌/◌, ◌≤◌, ◌<◌}
use native.Mathlib.Omega.{arith}
use native.Mathlib.Nat.{div-le_self}
use mathlib.Core.Path.{◌≡◌, ap, ◌∙◌}
use mathlib.Core.Bool.{Bool, true, false}
use mathlib.Core.List.{List, ◌++◌}
use lib.IntN.{ℤ}
use lib.ListN.{length, drop}
use borrow.Author.Tests.{lt-ltb, le-ltb}
use Rattle.common.specs.Limits.{greatest_tempo}
use Rattle.ticks.specs.declared.Tick.{Tick}
use Rattle.reader.specs.Samples.{Sample}
use Rattle.voice.specs.declared.Voice.{Voice}
use Rattle.voice.specs.Frames.{frame_numbers, mixed, moved}
use Rattle.voice.specs.Moved.{length-mixed}
use Rattle.machine.specs.declared.Machine.{Machine}
use Rattle.machine.specs.Lengths.{tick_frames, carried_at, length_at}
use Rattle.machine.specs.Machine.{begins, tick_length, frames, rested_at, after, mechanism}
use Rattle.machine.specs.Turn.{turn, turn_of}

module _ (keeps : Bool) (c : ℕ) (samples : ℕ → Sample) (w : Machine) (t : Tick) (b n : ℕ) (be : b ≡ carried_at w.tempo w.remainder t.tempo) (ne : n ≡ length_at t.tempo b) where
  length-is : n ≡ tick_length w t
  unfolding tick_length begins
  length-is = ne ∙ ap (length_at t.tempo) be

  -- nobody hears it
  pub tick_passed : (vs : List Voice) (w' : Machine) → vs ≡ moved c samples w.voices t.commands n → w' ≡ rested_at vs keeps t.tempo b → w' ≡ after keeps c samples w t
  unfolding after begins
  tick_passed vs w' q p = rw (← length-is, ← be, p, q)

  module _ (out : List ℤ) where
    -- it does not fit
    pub tick_full : length out < frame_numbers * n → turn true 0 w out ≡ turn_of (mechanism keeps c samples) w t out
    unfolding turn_of frames
    tick_full h = rw (← length-is, length-mixed c samples w.voices t.commands n, lt-ltb (length out) (frame_numbers * n) h)

    -- it does
    pub tick_played : frame_numbers * n ≤ length out → (vs : List Voice) (w' : Machine) (new : List ℤ) → vs ≡ moved c samples w.voices t.commands n → w' ≡ rested_at vs keeps t.tempo b → new ≡ mixed c samples w.voices t.commands n ++ drop (frame_numbers * n) out
        → turn false (frame_numbers * n) w' new ≡ turn_of (mechanism keeps c samples) w t out
    unfolding turn_of frames
    tick_played h vs w' new q p z = rw (← tick_passed vs w' q p, ← length-is, length-mixed c samples w.voices t.commands n, le-ltb (length out) (frame_numbers * n) h, z)

-- a tick's frames are few
pub frames_few : (tempo remainder : ℕ) → remainder ≤ greatest_tempo → (tick_frames + remainder) / tempo ≤ tick_frames + greatest_tempo
frames_few tempo remainder h = omega (arith, div-le_self (tick_frames + remainder) tempo)
