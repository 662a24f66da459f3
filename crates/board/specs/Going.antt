-- Ticks that a machine is ready for, one after the other: its voices are legal, and each tick is legal beside the samples that sound when it comes.
-- Assumes nothing.
use Rattle.std.specs.Prelude.{ℕ, ◌≤◌, ◌<◌, ◌≡◌, Bool, List, [], ◌∷◌, length, get_or}
use Rattle.std.proofs.Math.Path.{refl, sym}
use Rattle.std.proofs.Common.{◌∙◌, ap, arith}
use Rattle.laws.specs.Each.{get_or-each}
use Rattle.common.specs.Limits.{width, least_tempo, greatest_tempo}
use Rattle.ticks.specs.declared.Command.{Command}
use Rattle.ticks.specs.declared.Tick.{Tick}
use Rattle.ticks.specs.Commands.{nothing, sounding_of}
use Rattle.ticks.specs.Legal.{LegalTick, LegalTicks, more, length-sounding, get_or-sounding}
use Rattle.reader.specs.File.{sample_count, channel_count}
use Rattle.reader.specs.Accept.{accepted_has}
use Rattle.reader.specs.Modules.{as_module}
use Rattle.reader.specs.Samples.{extents_of}
use Rattle.reader.specs.declared.module.Module.{Module}
use Rattle.voice.specs.declared.Voice.{Voice}
use Rattle.voice.specs.Voice.{fresh_voice, samples_of}
use Rattle.voice.specs.Frames.{blank}
use Rattle.voice.specs.LegalFacts.{LegalVoices, Ready}
use Rattle.voice.specs.Modules.{table_inside}
use Rattle.machine.specs.declared.Machine.{Machine}
use Rattle.machine.specs.Machine.{fresh_machine, after}
use Rattle.machine.specs.Kept.{machine_fresh, after_voices, after_sample, after_below}
use Rattle.records.specs.Format.{at_first}
use Rattle.records.specs.Registers.{first_long, first_at}

pub record Going (m : Module) (w : Machine) (ts : List Tick) : Type 0 where
  pub voices : LegalVoices m.layout (extents_of (as_module m)) w.voices
  pub below : (w.remainder < w.tempo) × (w.tempo ≤ greatest_tempo)
  pub soundings : List ℕ
  pub long : length soundings ≡ width
  pub sounding : (j : ℕ) → j < m.layout.channels → (get_or w.voices j blank).sample ≡ get_or soundings j 0
  pub legal : LegalTicks m.layout.samples soundings ts

-- the registers are the commands that sound, and the ticks are legal after them
pub record Sounds (m : Module) (w : Machine) (registers : List Command) (ts : List Tick) : Type 0 where
  pub long : length registers ≡ width
  pub sounding : (j : ℕ) → j < m.layout.channels → (get_or w.voices j blank).sample ≡ (get_or registers j nothing).sample
  pub legal : LegalTicks m.layout.samples (sounding_of registers) ts

first_is : {last : ℕ} {soundings : List ℕ} {t : Tick} {ts : List Tick} → LegalTicks last soundings (t ∷ ts) → LegalTick last soundings t × LegalTicks last (sounding_of t.commands) ts
first_is (more l ls) = (l, ls)

-- ---- a stream's ticks, on the machine before the first
fresh_below : (fresh_machine.remainder < fresh_machine.tempo) × (fresh_machine.tempo ≤ greatest_tempo)
unfolding fresh_machine
fresh_below = (omega arith, omega arith)

fresh_sample : (j : ℕ) → j < width → (get_or fresh_machine.voices j blank).sample ≡ 0
unfolding fresh_machine
fresh_sample j h = ap (λ (v : Voice). v.sample) (get_or-each (λ (i : ℕ). fresh_voice) width j blank h)

pub going_begin : (m : Module) (ts : List Tick) → LegalTicks m.layout.samples (sounding_of at_first) ts → Going m fresh_machine ts
going_begin m ts l =
    record {
      voices = (machine_fresh m.layout (extents_of (as_module m)) m.legal.channels).voices;
      below = fresh_below;
      soundings = sounding_of at_first;
      long = length-sounding at_first ∙ first_long;
      sounding = λ j h. fresh_sample j (omega (arith, m.legal.channels)) ∙ sym (get_or-sounding at_first j ∙ ap (λ (c : Command). c.sample) (first_at j));
      legal = l;
    }

pub sounds_begin : (m : Module) (ts : List Tick) → LegalTicks m.layout.samples (sounding_of at_first) ts → Sounds m fresh_machine at_first ts
sounds_begin m ts l =
    record {
      long = first_long;
      sounding = λ j h. fresh_sample j (omega (arith, m.legal.channels)) ∙ ap (λ (c : Command). c.sample) (sym (first_at j));
      legal = l;
    }

-- ---- the next tick
module _ {m : Module} {w : Machine} {ts : List Tick} (g : Going m w ts) (t : Tick) (rest : List Tick) (e : ts ≡ t ∷ rest) where
  first : LegalTick m.layout.samples g.soundings t × LegalTicks m.layout.samples (sounding_of t.commands) rest
  first = first_is (rw e at g.legal)

  pub going_tempo : least_tempo ≤ t.tempo
  going_tempo = first.0.tempo.low

  pub going_some : 0 < t.tempo
  going_some = omega (arith, first.0.tempo.low)

  ready : Ready (as_module m) (extents_of (as_module m)) w.voices t.commands
  ready =
      record {
        inside = table_inside (as_module m) m.legal.samples (extents_of (as_module m)) refl (accepted_has (as_module m) m.judged);
        voices = g.voices;
        commands = λ j l. rw (g.sounding j l) (first.0.commands j (omega (arith, g.long, m.legal.channels)));
      }

  pub going_ready : Ready (as_module m) m.extents w.voices t.commands
  going_ready = rw m.table ready

  -- it is played: the voices are legal again, each with its command's sample
  pub going_more : (keeps : Bool) → Going m (after keeps m.layout.channels (samples_of (as_module m)) w t) rest
  unfolding after
  going_more keeps =
      record {
        voices = after_voices keeps (as_module m) (extents_of (as_module m)) w t m.legal.channels ready;
        below = (after_below keeps m.layout.channels (samples_of (as_module m)) w t going_some, first.0.tempo.high);
        soundings = sounding_of t.commands;
        long = length-sounding t.commands ∙ (first.0.long ∙ g.long);
        sounding = λ j l. after_sample keeps m.layout.channels (samples_of (as_module m)) w t j m.legal.channels l ∙ sym (get_or-sounding t.commands j);
        legal = first.1;
      }

  -- and its commands are the registers then
  pub sounds_more : (keeps : Bool) (registers : List Command) → registers ≡ t.commands → Sounds m (after keeps m.layout.channels (samples_of (as_module m)) w t) registers rest
  sounds_more keeps registers q =
      rw q
      (record {
        long = first.0.long ∙ g.long;
        sounding = λ j l. after_sample keeps m.layout.channels (samples_of (as_module m)) w t j m.legal.channels l;
        legal = first.1;
      })
