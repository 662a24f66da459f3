-- Machines that carry the voices: a tick's commands leave legal voices, each with its command's sample. Those that have the shared machine in them do.
-- Assumes nothing.
use Rattle.std.specs.Prelude.{ℕ, ◌<◌, ◌≡◌, refl, Bool, List, get_or}
use Rattle.ticks.specs.declared.Tick.{Tick}
use Rattle.ticks.specs.Commands.{nothing}
use Rattle.ticks.specs.Play.{Mechanism}
use Rattle.reader.specs.File.{Module, channel_count}
use Rattle.reader.specs.Layouts.{LegalLayout}
use Rattle.reader.specs.Samples.{Sample, extents_of}
use Rattle.voice.specs.declared.Voice.{Voice}
use Rattle.voice.specs.Voice.{samples_of}
use Rattle.voice.specs.Frames.{blank}
use Rattle.voice.specs.LegalFacts.{LegalVoices, Ready}
use Rattle.machine.specs.declared.Machine.{Machine}
use Rattle.machine.specs.Machine.{after, mechanism}
use Rattle.machine.specs.Kept.{after_voices, after_sample}

pub record Carries {A W : Type 0} (k : Mechanism A W Tick) (voices_of : W → List Voice) (m : Module) : Type 0 where
  pub legal : (w : W) (t : Tick) → Ready m (extents_of m) (voices_of w) t.commands → LegalVoices m.layout (extents_of m) (voices_of (k.after w t))
  pub sample : (w : W) (t : Tick) (i : ℕ) → i < channel_count m → (get_or (voices_of (k.after w t)) i blank).sample ≡ (get_or t.commands i nothing).sample

-- a machine that has the shared one in it: a tick moves that as it moves it alone
pub record Holds {A W : Type 0} (k : Mechanism A W Tick) (held : W → Machine) (keeps : Bool) (c : ℕ) (samples : ℕ → Sample) : Type 0 where
  pub moves : (w : W) (t : Tick) → held (k.after w t) ≡ after keeps c samples (held w) t

-- a machine that has it carries its voices
pub holds_carries : {A W : Type 0} (k : Mechanism A W Tick) (held : W → Machine) (keeps : Bool) (m : Module) → LegalLayout m.layout → Holds k held keeps (channel_count m) (samples_of m) → Carries k (λ w. (held w).voices) m
holds_carries k held keeps m y h =
    record {
      legal = λ w t r. rw (h.moves w t) (after_voices keeps m (extents_of m) (held w) t y.channels r);
      sample = λ w t i l. rw (h.moves w t) (after_sample keeps (channel_count m) _ (held w) t i y.channels l);
    }

-- ---- the machine that plays 16-bit frames
-- it is the shared one, whether it keeps a remainder or not
abbrev pub itself : Machine → Machine
itself w = w

pub holds_itself : (keeps : Bool) (c : ℕ) (samples : ℕ → Sample) → Holds (mechanism keeps c samples) itself keeps c samples
holds_itself keeps c samples = record { moves = λ w t. refl }

pub carries : (keeps : Bool) (m : Module) → LegalLayout m.layout → Carries (mechanism keeps (channel_count m) (samples_of m)) (λ w. w.voices) m
carries keeps m y = holds_carries (mechanism keeps (channel_count m) (samples_of m)) itself keeps m y (holds_itself keeps (channel_count m) (samples_of m))
