-- No drift (`no_drift`): n ticks in a row at one tempo have exactly the frames that their time says. No tick has more than 3,750 frames (`tick_most`),
-- and a frame is two numbers (`sized`). And the tempo before the first tick does not matter.
-- Assumes nothing.
use Rattle.std.specs.Prelude.{ℕ, ◌*◌, ◌/◌, ◌≤◌, ◌<◌, ◌≡◌, refl, Bool, false, length}
use Rattle.std.proofs.Math.Path.{sym}
use Rattle.std.proofs.Common.{ap, ◌∙◌, add-zero}
use Rattle.std.proofs.Math.Bool.{true}
use mathlib.Core.List.{List, [], ◌∷◌}
use native.Mathlib.Omega.{arith}
use Rattle.std.proofs.Math.ListN.{length-append}
use Rattle.common.specs.Limits.{least_tempo, greatest_tempo}
use Rattle.common.specs.LimitFacts.{Between}
use Rattle.ticks.specs.declared.Tick.{Tick}
use Rattle.ticks.specs.Play.{rendered}
use Rattle.reader.specs.Samples.{Sample}
use Rattle.voice.specs.declared.Voice.{Voice}
use Rattle.voice.specs.Frames.{frame_numbers}
use Rattle.voice.specs.Moved.{length-mixed}
use Rattle.machine.specs.declared.Machine.{Machine}
use Rattle.machine.specs.Lengths.{tick_frames, carried_at, length_at, kept_at}
use Rattle.machine.specs.LengthLaws.{longest, carried_below, length_most, carried_same, carried_none, lengths_at, lengths_add}
use Rattle.machine.specs.Machine.{begins, tick_length, frames, after, mechanism}

-- a tick has two numbers for each of its frames
pub sized : (channels : ℕ) (samples : ℕ → Sample) (w : Machine) (t : Tick) → length (frames channels samples w t) ≡ frame_numbers * tick_length w t
unfolding frames
sized channels samples w t = length-mixed channels samples w.voices t.commands (tick_length w t)

-- no tick has more than 3,750 frames
pub tick_most : (w : Machine) (t : Tick) → w.remainder < w.tempo → least_tempo ≤ t.tempo → tick_length w t ≤ longest
unfolding tick_length begins
tick_most w t h l = length_most t.tempo (begins w t) l (carried_below w.tempo w.remainder t.tempo h (omega arith))

-- ---- ticks at one tempo
pub data AtTempo (tempo : ℕ) : List Tick → Type 0 where
  none : AtTempo tempo []
  more : {t : Tick} {ts : List Tick} → t.tempo ≡ tempo → AtTempo tempo ts → AtTempo tempo (t ∷ ts)

module _ (c : ℕ) (samples : ℕ → Sample) (tempo : ℕ) where
  module _ (w : Machine) (t : Tick) (r : ℕ) (a : t.tempo ≡ tempo) (e : carried_at w.tempo w.remainder tempo ≡ r) where
    size-at : frame_numbers * tick_length w t ≡ frame_numbers * length_at tempo r
    unfolding tick_length begins
    size-at = rw (a, e)

    kept_at_lem : carried_at (after true c samples w t).tempo (after true c samples w t).remainder tempo ≡ kept_at true tempo r
    unfolding after begins
    kept_at_lem = rw (a, e) (carried_same tempo (kept_at true tempo r))

  numbers_at : (ts : List Tick) → AtTempo tempo ts → (w : Machine) (r : ℕ) → carried_at w.tempo w.remainder tempo ≡ r → length (rendered (mechanism true c samples) w ts) ≡ frame_numbers * lengths_at tempo r (length ts)
  unfolding rendered lengths_at
  numbers_at [] none w r e = omega arith
  numbers_at (t ∷ ts) (more a all) w r e =
      let next = after true c samples w t in
      length-append (frames c samples w t) (rendered (mechanism true c samples) next ts)
      ∙ omega (arith, sized c samples w t ∙ size-at w t r a e, numbers_at ts all next (kept_at true tempo r) (kept_at_lem w t r a e))

  -- n ticks in a row at one tempo, from remainder 0, have exactly (120,000 × n) div tempo frames
  pub no_drift : Between least_tempo greatest_tempo tempo → (ts : List Tick) → AtTempo tempo ts → (w : Machine) → w.remainder ≡ 0 → length (rendered (mechanism true c samples) w ts) ≡ frame_numbers * ((tick_frames * length ts) / tempo)
  no_drift b ts all w e =
      let h : 0 < tempo = omega (arith, b.low) in
      numbers_at ts all w 0 (ap (λ (r : ℕ). carried_at w.tempo r tempo) e ∙ carried_none w.tempo tempo)
      ∙ ap (λ (n : ℕ). frame_numbers * n) (lengths_add tempo h (length ts) 0 h ∙ ap (λ (k : ℕ). k / tempo) (add-zero (tick_frames * length ts)))

-- ---- from remainder 0 the tempo before does not matter
abbrev from : List Voice → ℕ → Machine
from vs before = record { voices = vs; tempo = before; remainder = 0 }

module _ (vs : List Voice) (before other : ℕ) (t : Tick) where
  begins_alike : begins (from vs before) t ≡ begins (from vs other) t
  unfolding begins
  begins_alike = carried_none before t.tempo ∙ sym (carried_none other t.tempo)

  length-alike : tick_length (from vs before) t ≡ tick_length (from vs other) t
  unfolding tick_length
  length-alike = rw begins_alike

  pub first_frames : (c : ℕ) (samples : ℕ → Sample) → frames c samples (from vs before) t ≡ frames c samples (from vs other) t
  unfolding frames
  first_frames c samples = rw length-alike

  pub first_after : (keeps : Bool) (c : ℕ) (samples : ℕ → Sample) → after keeps c samples (from vs before) t ≡ after keeps c samples (from vs other) t
  unfolding after
  first_after keeps c samples = rw (length-alike, begins_alike)

-- ---- the old rule
-- a tick that begins with nothing has 120,000 div tempo frames
pub old_length : (w : Machine) (t : Tick) → w.remainder ≡ 0 → tick_length w t ≡ tick_frames / t.tempo
unfolding tick_length begins length_at
old_length w t e = rw (e, carried_none w.tempo t.tempo)

-- and leaves nothing
pub old_rest : (c : ℕ) (samples : ℕ → Sample) (w : Machine) (t : Tick) → (after false c samples w t).remainder ≡ 0
unfolding after kept_at
old_rest c samples w t = refl
