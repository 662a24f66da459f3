-- A stream that is read record by record beside the voices that play it: what is left of it (`Reading`), and that the voices are ready for the next record.
-- Assumes nothing.
use Rattle.std.specs.Prelude.{ℕ, ◌+◌, ◌-◌, ◌≤◌, ◌<◌, ◌≡◌, refl, Ok, List, [], length, get_or}
use Rattle.std.proofs.Common.{◌∙◌, arith}
use Rattle.common.specs.Limits.{width}
use Rattle.ticks.specs.declared.Command.{Command}
use Rattle.ticks.specs.declared.Tick.{Tick}
use Rattle.ticks.specs.Commands.{nothing}
use Rattle.ticks.specs.Legal.{length-sounding, get_or-sounding}
use Rattle.reader.specs.File.{Module, sample_count, channel_count}
use Rattle.reader.specs.Layouts.{LegalLayout}
use Rattle.reader.specs.Judge.{verdict}
use Rattle.reader.specs.Accept.{accepted_has}
use Rattle.reader.specs.Samples.{extents_of}
use Rattle.voice.specs.declared.Voice.{Voice}
use Rattle.voice.specs.Frames.{blank}
use Rattle.voice.specs.LegalFacts.{LegalVoices, Ready}
use Rattle.voice.specs.Modules.{table_inside}
use Rattle.records.specs.Format.{read_record}
use Rattle.decoder.specs.declared.reading.Record.{Record}
use Rattle.decoder.specs.Results.{as_record}
use Rattle.decoder.specs.Remaining.{Left, Next, left_next, left_end}

-- i of the count are read, and ts are left; the voices are legal, and their samples are the registers'
pub record Reading (m : Module) (s : List ℕ) (count : ℕ) (vs : List Voice) (registers : List Command) (from i : ℕ) (ts : List Tick) : Type 0 where
  pub layout : LegalLayout m.layout
  pub judge : (verdict m).number ≡ 0
  pub left : Left (sample_count m) (channel_count m) s (count - i) from registers ts
  pub legal : LegalVoices m.layout (extents_of m) vs
  pub long : length registers ≡ width
  pub sounding : (j : ℕ) → j < channel_count m → (get_or vs j blank).sample ≡ (get_or registers j nothing).sample

module _ {m : Module} {s : List ℕ} {count : ℕ} {vs : List Voice} {registers : List Command} {from i : ℕ} {ts : List Tick} (g : Reading m s count vs registers from i ts) where
  -- no record is left
  pub reading_end : count ≤ i → ts ≡ []
  reading_end h = left_end (sample_count m) (channel_count m) s count i from registers ts g.left h

  module _ (h : i < count) (r : Record) (q : Ok r ≡ as_record (read_record (sample_count m) (channel_count m) s from registers)) where
    pub next : Next (sample_count m) (channel_count m) s (count - (i + 1)) registers ts r
    next = left_next (sample_count m) (channel_count m) s count i from registers ts g.left r h q

    -- the voices are ready for its commands
    pub next_ready : Ready m (extents_of m) vs r.tick.commands
    next_ready =
        record {
          inside = table_inside m g.layout.samples (extents_of m) refl (accepted_has m g.judge);
          voices = g.legal;
          commands = λ j l. rw (g.sounding j l, ← get_or-sounding registers j) (next.legal.commands j (omega (arith, length-sounding registers, g.long, g.layout.channels)));
        }

    -- it is played: the voices are legal again, each with its command's sample
    pub reading_more : (vs' : List Voice) → LegalVoices m.layout (extents_of m) vs' → ((j : ℕ) → j < channel_count m → (get_or vs' j blank).sample ≡ (get_or r.tick.commands j nothing).sample)
        → Reading m s count vs' r.tick.commands r.next (i + 1) next.rest
    reading_more vs' l e = record { layout = g.layout; judge = g.judge; left = next.left; legal = l; long = next.legal.long ∙ (length-sounding registers ∙ g.long); sounding = e }
