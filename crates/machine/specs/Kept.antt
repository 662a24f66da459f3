-- What is known of a machine: legal ones, which a tick keeps legal; the range of its numbers; and that it depends on the samples that sound, and on no other.
-- Assumes nothing.
use Rattle.std.specs.Prelude.{ℕ, ◌≤◌, ◌<◌, ◌≡◌, Bool, ℤ, pos, length, get_or}
use Rattle.std.proofs.Math.Path.{ap}
use Rattle.std.proofs.Common.{◌∙◌, arith}
use mathlib.Core.List.{List, [], ◌∷◌}
use Rattle.std.specs.Int.Signed.{mag}
use Rattle.laws.specs.Each.{length-each, get_or-each}
use Rattle.laws.specs.Lists.{append_each}
use Rattle.common.specs.ByteLaws.{Bytes}
use Rattle.common.specs.Limits.{width, loudest}
use Rattle.ticks.specs.declared.Tick.{Tick}
use Rattle.ticks.specs.Commands.{nothing, sounding_of}
use Rattle.ticks.specs.Legal.{LegalTicks, length-sounding}
use Rattle.ticks.specs.Legal.LegalTicks.{more}
use Rattle.ticks.specs.Play.{rendered}
use Rattle.voice.specs.LegalFacts.{LegalVoices, Ready}
use Rattle.reader.specs.declared.Extent.{Extent}
use Rattle.reader.specs.declared.Layout.{Layout}
use Rattle.reader.specs.File.{Module, channel_count}
use Rattle.reader.specs.Samples.{Sample}
use Rattle.voice.specs.declared.Voice.{Voice}
use Rattle.voice.specs.Voice.{fresh_voice}
use Rattle.voice.specs.Modules.{samples_in}
use Rattle.voice.specs.Frames.{blank, sounding_at}
use Rattle.voice.specs.Kept.{fresh_legal}
use Rattle.voice.specs.Moved.{moved_length, moved_sample, moved_rest, moved_legal, mixed_same, moved_same}
use Rattle.voice.specs.Range.{mixed_fits, half16}
use Rattle.machine.specs.declared.Machine.{Machine}
use Rattle.machine.specs.Lengths.{kept_at}
use Rattle.machine.specs.LengthLaws.{kept_below}
use Rattle.machine.specs.Machine.{fresh_machine, begins, tick_length, frames, after, mechanism}

-- ---- legal machines
-- its voices are legal, and its remainder is below its tempo
pub record LegalMachine (l : Layout) (extents : List Extent) (w : Machine) : Type 0 where
  pub voices : LegalVoices l extents w.voices
  pub remainder : w.remainder < w.tempo

pub machine_fresh : (l : Layout) (extents : List Extent) → l.channels ≤ width → LegalMachine l extents fresh_machine
unfolding fresh_machine
machine_fresh l extents room =
    record {
      voices =
          record {
            long = length-each {A = Voice} (λ i. fresh_voice) width;
            used = λ i h. rw (get_or-each {A = Voice} (λ j. fresh_voice) width i blank (omega arith)) (fresh_legal l.samples _);
            rest = λ i w h. get_or-each {A = Voice} (λ j. fresh_voice) width i blank w;
          };
      remainder = omega arith;
    }

-- a tick keeps a machine legal: its voices
pub after_voices : (keeps : Bool) (m : Module) (extents : List Extent) (w : Machine) (t : Tick) → channel_count m ≤ width → Ready m extents w.voices t.commands → LegalVoices m.layout extents (after keeps (channel_count m) (samples_in m extents) w t).voices
unfolding after
after_voices keeps m extents w t room r = moved_legal m extents w.voices t.commands r room (tick_length w t)

-- and its remainder, which is below the tick's tempo
pub after_below : (keeps : Bool) (c : ℕ) (samples : ℕ → Sample) (w : Machine) (t : Tick) → 0 < t.tempo → (after keeps c samples w t).remainder < t.tempo
unfolding after
after_below keeps c samples w t h = kept_below keeps t.tempo (begins w t) h

pub after_legal : (keeps : Bool) (m : Module) (extents : List Extent) (w : Machine) (t : Tick) → channel_count m ≤ width → Ready m extents w.voices t.commands → 0 < t.tempo → LegalMachine m.layout extents (after keeps (channel_count m) (samples_in m extents) w t)
unfolding after
after_legal keeps m extents w t room r h = record { voices = after_voices keeps m extents w t room r; remainder = after_below keeps (channel_count m) (samples_in m extents) w t h }

-- ---- the voices after a tick
module _ (keeps : Bool) (c : ℕ) (samples : ℕ → Sample) (w : Machine) (t : Tick) where
  pub after_length : length (after keeps c samples w t).voices ≡ width
  unfolding after
  after_length = moved_length c samples w.voices t.commands (tick_length w t)

  -- a voice's sounding sample is the command's
  pub after_sample : (i : ℕ) → c ≤ width → i < c → (get_or (after keeps c samples w t).voices i blank).sample ≡ (get_or t.commands i nothing).sample
  unfolding after
  after_sample = moved_sample c samples w.voices t.commands (tick_length w t)

  -- past the count it stays as it was
  pub after_rest : (i : ℕ) → i < width → c ≤ i → get_or (after keeps c samples w t).voices i blank ≡ get_or w.voices i blank
  unfolding after
  after_rest = moved_rest c samples w.voices t.commands (tick_length w t)

-- no number of a tick leaves 16 bits signed
pub frames_fit : (c : ℕ) (samples : ℕ → Sample) (w : Machine) (t : Tick) → c ≤ width → ((k : ℕ) → Bytes (samples k).bytes) → ((i : ℕ) → i < c → (get_or t.commands i nothing).volume ≤ loudest) → (j : ℕ) → mag (get_or (frames c samples w t) j (pos 0)) < half16
unfolding frames
frames_fit c samples w t room bytes low = mixed_fits c room samples bytes w.voices t.commands low (tick_length w t)

-- and none of a list of legal ticks, on any machine
pub rendered_fit : (keeps : Bool) (last c : ℕ) (samples : ℕ → Sample) → c ≤ width → ((k : ℕ) → Bytes (samples k).bytes) → (w : Machine) (soundings : List ℕ) → length soundings ≡ width → (ts : List Tick) → LegalTicks last soundings ts
    → (j : ℕ) → mag (get_or (rendered (mechanism keeps c samples) w ts) j (pos 0)) < half16
unfolding rendered
rendered_fit keeps last c samples room bytes w soundings long [] l = λ j. omega arith
rendered_fit keeps last c samples room bytes w soundings long (t ∷ ts) (more l ls) =
    append_each (λ (z : ℤ). mag z < half16) (pos 0) (frames c samples w t) _ (frames_fit c samples w t room bytes (λ i h. (l.commands i (omega arith)).volume))
    (rendered_fit keeps last c samples room bytes (after keeps c samples w t) (sounding_of t.commands) (length-sounding t.commands ∙ (l.long ∙ long)) ts ls)

-- ---- a tick depends on the samples that its commands name, and on no other
module _ (c : ℕ) (samples others : ℕ → Sample) (w : Machine) (t : Tick) (same : (i : ℕ) → i < c → sounding_at samples t.commands i ≡ sounding_at others t.commands i) where
  pub frames_same : frames c samples w t ≡ frames c others w t
  unfolding frames
  frames_same = mixed_same c samples others w.voices t.commands same (tick_length w t)

  pub after_same : (keeps : Bool) → after keeps c samples w t ≡ after keeps c others w t
  unfolding after
  after_same keeps = ap (λ (vs : List Voice). record { voices = vs; tempo = t.tempo; remainder = kept_at keeps t.tempo (begins w t) }) (moved_same c samples others w.voices t.commands same (tick_length w t))
