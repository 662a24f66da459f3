-- Cells that do nothing to a channel's waves: code leaves the waves alone there.
-- Assumes nothing.
use Rattle.std.specs.Prelude.{ℕ, ◌≡◌, Bool, false, ◌||◌, List, eqb}
use Rattle.std.proofs.Common.{sym, ◌∙◌}
use Rattle.laws.specs.Tests.{or_parts}
use Rattle.reader.specs.declared.Cell.{Cell}
use Rattle.motion.specs.Waves.{remembered}
use Rattle.motion.specs.declared.Wave.{Wave}
use Rattle.effects.specs.Notes.{is_note}
use Rattle.effects.specs.Wavering.{row_place, row_form, row_wave}
use Rattle.effects.specs.Work.{latched_by, row_finetune, given_volume, row_volume, given_period, row_period, row_target, row_memory, row_channel}
use Rattle.effects.specs.declared.Channel.{Channel}

-- the channel after the row's work on its sample and volume
abbrev pub row_sample : List ℕ → Cell → Channel → Channel
row_sample bytes c ch =
    record {
      latched = latched_by c ch.latched;
      finetune = row_finetune bytes c ch.finetune;
      volume = row_volume c (given_volume bytes c ch.volume);
      period = ch.period;
      target = ch.target;
      memory = row_memory c ch.memory;
      vibrato = ch.vibrato;
      tremolo = ch.tremolo;
    }

-- and on its period and target, by the finetune that it has then
abbrev pub row_periods : Cell → Channel → Channel
row_periods c ch =
    record {
      latched = ch.latched;
      finetune = ch.finetune;
      volume = ch.volume;
      period = row_period ch.finetune c (given_period ch.finetune c ch.period);
      target = row_target ch.finetune c ch.target;
      memory = ch.memory;
      vibrato = ch.vibrato;
      tremolo = ch.tremolo;
    }

-- the channel after the row's work, its waves as they were
abbrev pub row_numbers : List ℕ → Cell → Channel → Channel
row_numbers bytes c ch =
    let after = row_channel bytes c ch in
    record {
      latched = after.latched;
      finetune = after.finetune;
      volume = after.volume;
      period = after.period;
      target = after.target;
      memory = after.memory;
      vibrato = ch.vibrato;
      tremolo = ch.tremolo;
    }

-- a note, or an effect of the waves' own
unfoldable pub touches_waves : Cell → Bool
touches_waves c = (((is_note c || eqb c.effect 0x04) || eqb c.effect 0x07) || eqb c.effect 0xE4) || eqb c.effect 0xE7

-- a wave stays without a note and without its two effects
wave_stays : (effect choosing : ℕ) (c : Cell) (w : Wave) → is_note c ≡ false → eqb c.effect effect ≡ false → eqb c.effect choosing ≡ false → w ≡ row_wave effect choosing c w
unfolding row_wave row_place row_form remembered
wave_stays effect choosing c w n e f = rw (n, e, f)

-- so the whole channel is its numbers where the test says no
pub waves_stay : (bytes : List ℕ) (c : Cell) (ch : Channel) (touched : Bool) → touched ≡ touches_waves c → touched ≡ false → row_numbers bytes c ch ≡ row_channel bytes c ch
unfolding touches_waves row_channel
waves_stay bytes c ch touched same none =
    let e7 = or_parts _ _ (sym same ∙ none) in
    let e4 = or_parts _ _ e7.0 in
    let seven = or_parts _ _ e4.0 in
    let four = or_parts _ _ seven.0 in
    rw (← wave_stays 0x04 0xE4 c ch.vibrato four.0 four.1 e4.1, ← wave_stays 0x07 0xE7 c ch.tremolo four.0 seven.1 e7.1)
