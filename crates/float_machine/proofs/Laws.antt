-- A tick as floats: mixed in a buffer that has room for the longest, whose front is delivered. Laws over plain variables.
-- Assumes nothing.
use Prim.Native.Nat.{ℕ, ◌+◌, ◌*◌, ◌≤◌, ◌<◌}
use native.Mathlib.Nat.{mul-le-mul}
use native.Mathlib.Omega.{arith}
use mathlib.Core.Path.{◌≡◌, refl, sym, ap, ◌∙◌}
use mathlib.Core.Bool.{Bool, true, false}
use mathlib.Core.List.{List}
use lib.IntN.{ℤ}
use lib.ListN.{length, take, drop}
use lib.Seq.{take_at}
use lib.Ieee.{Float}
use mir.Syntax.{w64}
use mir.Val.{Fits}
use mir.Facts.{Fits-le, Fits-lit}
use borrow.Author.Tests.{lt-ltb}
use Rattle.common.specs.Limits.{least_tempo, greatest_tempo}
use Rattle.ticks.specs.declared.Tick.{Tick}
use Rattle.ticks.specs.Play.{Mechanism, over}
use Rattle.std.specs.Prelude.{Option, Some, None, IsSome}
use Rattle.reader.specs.File.{channel_count}
use Rattle.reader.specs.Modules.{as_module}
use Rattle.reader.specs.declared.module.Module.{Module}
use Rattle.voice.specs.Voice.{samples_of}
use Rattle.voice.specs.Frames.{frame_numbers}
use Rattle.machine.specs.declared.Machine.{Machine}
use Rattle.machine.specs.Lengths.{carried_at, length_at}
use Rattle.machine.specs.LengthLaws.{longest, carried_below, length_most}
use Rattle.machine.specs.Machine.{begins, tick_length}
use Rattle.machine.specs.Drift.{sized, tick_most}
use Rattle.machine.specs.Turn.{Turned, turn, answered, turn_of}
use Rattle.machine.specs.Sounding.{Due, integers}
use Rattle.machine.specs.Turns.{turn_room}
use Rattle.floats.specs.declared.Pair.{Pair}
use Rattle.floats.specs.Frames.{floats_of, last_of}
use Rattle.floats.specs.Lengths.{floats_size}
use Rattle.float_machine.specs.Machine.{FloatMachine}
use Rattle.float_machine.specs.Machine.{float_state, float_frames, float_after}
use Rattle.float_machine.specs.Sounding.{floats}
use Rattle.floats.specs.Asked.{count_of, sides_some, sides_few}
use Rattle.floats.specs.declared.Sides.{Sides}

-- ---- how many numbers
module _ (w : Machine) (tempo : ℕ) (low : least_tempo ≤ tempo) (h : (w.remainder < w.tempo) × (w.tempo ≤ greatest_tempo)) where
  pub product_fits : (b n sides : ℕ) → b ≡ carried_at w.tempo w.remainder tempo → n ≡ length_at tempo b → sides ≤ 2 → Fits w64 (sides * n)
  product_fits b n sides be ne s =
      let m : length_at tempo (carried_at w.tempo w.remainder tempo) ≤ longest = length_most tempo _ low (carried_below w.tempo w.remainder tempo h.0 (omega arith)) in
      let q : n ≡ length_at tempo (carried_at w.tempo w.remainder tempo) = ne ∙ ap (length_at tempo) be in
      Fits-le (mul-le-mul s (few m q)) (Fits-lit tt)
    where
      few : {a b c : ℕ} → a ≤ c → b ≡ a → b ≤ c
      few l e = omega (arith, l, e)

pub product_is : (w : Machine) (tempo b n sides : ℕ) → b ≡ carried_at w.tempo w.remainder tempo → n ≡ length_at tempo b → sides * n ≡ sides * length_at tempo (carried_at w.tempo w.remainder tempo)
product_is w tempo b n sides be ne = rw (ne, be)

-- ---- a tick that is due
-- the buffer has room for its frames
module _ (m : Module) (keeps : Bool) {w : Machine} {t : Tick} (d : Due (integers m keeps) w t) (buffer : List ℤ) (room : length buffer ≡ frame_numbers * longest) where
  pub mixed_room : length ((integers m keeps).plays.frames w t) ≤ length buffer
  mixed_room = omega (arith, sized (channel_count (as_module m)) (samples_of (as_module m)) w t, tick_most w t d.below d.tempo)

  -- so that it is played
  pub mixed_some : (left : List ℤ) (r : Option ℕ) (next : Machine) → answered r next left ≡ turn_of (integers m keeps).plays w t buffer → IsSome r
  mixed_some left (Some size) next q = refl
  mixed_some left None next q = sym (ap (λ (x : Turned ℤ Machine). x.full) (q ∙ turn_room (integers m keeps).plays w t buffer mixed_room))

  pub mixed_size : (left : List ℤ) (r : Option ℕ) (size : ℕ) (next : Machine) → r ≡ Some size → answered r next left ≡ turn_of (integers m keeps).plays w t buffer → turn false size next left ≡ turn_of (integers m keeps).plays w t buffer
  mixed_size left r size next e q = rw e at q

  pub mixed_few : (left : List ℤ) (size : ℕ) (next : Machine) → turn false size next left ≡ turn_of (integers m keeps).plays w t buffer → size ≤ frame_numbers * longest
  mixed_few left size next q = omega (arith, room, ap (λ (x : Turned ℤ Machine). x.size) (q ∙ turn_room (integers m keeps).plays w t buffer mixed_room), mixed_room)

module _ (m : Module) (keeps : Bool) (s : Sides) {w : FloatMachine} {t : Tick} (d : Due (floats (count_of s) m keeps) w t) where
  abbrev mixes : Mechanism ℤ Machine Tick
  mixes = (integers m keeps).plays

  abbrev sounds : Mechanism Float FloatMachine Tick
  sounds = (floats (count_of s) m keeps).plays

  abbrev xs : List ℤ
  xs = mixes.frames w.machine t

  -- it is due to the sounder of 16-bit numbers
  pub due_mixed : Due (integers m keeps) w.machine t
  due_mixed = record { ready = d.ready; tempo = d.tempo; below = d.below; slow = d.slow }

  -- ---- how many numbers it takes
  module _ (n : ℕ) (e : n ≡ count_of s * length_at t.tempo (carried_at w.machine.tempo w.machine.remainder t.tempo)) where
    numbers_are : length (floats_of (count_of s) xs) ≡ n
    unfolding tick_length begins
    numbers_are = floats_size (count_of s) (sides_some s) (sides_few s) (tick_length w.machine t) _ (sized (channel_count (as_module m)) (samples_of (as_module m)) w.machine t) ∙ sym e

    -- they do not fit
    pub float_full : (out : List Float) → length out < n → turn true 0 w out ≡ turn_of (floats (count_of s) m keeps).plays w t out
    unfolding turn_of float_frames
    float_full out h = rw (numbers_are, lt-ltb (length out) n h)

    -- they do
    module _ (out : List Float) (h : n ≤ length out) where
      float_room : length (floats_of (count_of s) xs) ≤ length out
      float_room = rw numbers_are h

      -- the frames, mixed in a buffer
      module _ (buffer left : List ℤ) (room : length buffer ≡ frame_numbers * longest) (size : ℕ) (next : Machine) (q : turn false size next left ≡ turn_of (integers m keeps).plays w.machine t buffer) where
        made : turn false size next left ≡ turn false (length xs) (mixes.after w.machine t) (over xs buffer)
        made = q ∙ turn_room mixes w.machine t buffer (mixed_room m keeps due_mixed buffer room)

        front_is : take size left ≡ xs
        front_is =
            let n : size ≡ length xs = ap (λ (x : Turned ℤ Machine). x.size) made in
            rw (ap (λ (x : Turned ℤ Machine). x.out) made) (take_at xs (drop (length xs) buffer) size (sym n))

        pub front_room : length (floats_of (count_of s) (take size left)) ≤ length out
        front_room = rw front_is float_room

        pub float_played : (last : Pair) (new : List Float) (number : ℕ) → last ≡ last_of w.next w.last (take size left) → new ≡ over (floats_of (count_of s) (take size left)) out → number ≡ w.next + 1
            → turn false n (float_state next last number) new ≡ turn_of (floats (count_of s) m keeps).plays w t out
        unfolding float_frames float_after
        float_played last new number l o k =
            rw (l, o, k, front_is, ap (λ (x : Turned ℤ Machine). x.machine) made, ← numbers_are) (sym (turn_room sounds w t out float_room))
