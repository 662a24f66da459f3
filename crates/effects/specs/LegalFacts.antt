-- A channel is fresh, or legal, exactly where the question is answered by yes: `x-has` and `x-by`. A fresh channel is legal.
-- Assumes nothing.
use Rattle.std.specs.Prelude.{ℕ, ◌≤◌, ◌≡◌, refl, true}
use Rattle.std.proofs.Common.{le-leb, leb-true, eqb-true}
use Rattle.std.proofs.Common.{zero-le}
use Rattle.laws.specs.Every.{all_at, all_by, Each}
use Rattle.common.specs.Limits.{loudest, last_byte}
use Rattle.laws.specs.Ranges.{all, all_from}
use Rattle.common.specs.LimitFacts.{period_has, period_by, LegalPeriod}
use Rattle.common.specs.LimitFacts.LegalPeriod.{silent}
use Rattle.tuning.specs.Table.{last_finetune}
use Rattle.motion.specs.Waves.{fresh_wave, last_memory}
use Rattle.motion.specs.LegalFacts.{fresh_wave_has, fresh_wave_by, wave_has, wave_by, fresh_wave_legal, LegalWave}
use Rattle.effects.specs.Legal.{fresh_channel, is_fresh, legal_channel}
use Rattle.effects.specs.declared.Channel.{Channel}

-- samples to the last, finetunes to 15, volumes to 64, periods and target 0 or 108 to 907, memory to 255, legal waves
pub record LegalChannel (last : ℕ) (ch : Channel) : Type 0 where
  pub latched : ch.latched ≤ last
  pub finetune : ch.finetune ≤ last_finetune
  pub volume : ch.volume ≤ loudest
  pub period : LegalPeriod ch.period
  pub target : LegalPeriod ch.target
  pub memory : ch.memory ≤ last_byte
  pub vibrato : LegalWave ch.vibrato
  pub tremolo : LegalWave ch.tremolo

-- of these, what the sound's arithmetic stands on
pub record LegalDepths (ch : Channel) : Type 0 where
  pub vibrato : ch.vibrato.y ≤ last_memory
  pub tremolo : ch.tremolo.y ≤ last_memory

pub fresh_has : (ch : Channel) → is_fresh ch ≡ true → ch ≡ fresh_channel
unfolding is_fresh
fresh_has ch e =
    let h = all_at _ e in
    rw (
      eqb-true ch.latched 0 (h 0),
      eqb-true ch.finetune 0 (h 1),
      eqb-true ch.volume 0 (h 2),
      eqb-true ch.period 0 (h 3),
      eqb-true ch.target 0 (h 4),
      eqb-true ch.memory 0 (h 5),
      fresh_wave_has ch.vibrato (h 6),
      fresh_wave_has ch.tremolo (h 7),
    )

pub fresh_by : (ch : Channel) → ch ≡ fresh_channel → is_fresh ch ≡ true
unfolding is_fresh all all_from
fresh_by ch e = rw (e, fresh_wave_by fresh_wave refl)

pub channel_has : (last : ℕ) (ch : Channel) → legal_channel last ch ≡ true → LegalChannel last ch
unfolding legal_channel
channel_has last ch e =
    let h = all_at _ e in
    record {
      latched = leb-true ch.latched last (h 0);
      finetune = leb-true ch.finetune last_finetune (h 1);
      volume = leb-true ch.volume loudest (h 2);
      period = period_has ch.period (h 3);
      target = period_has ch.target (h 4);
      memory = leb-true ch.memory last_byte (h 5);
      vibrato = wave_has ch.vibrato (h 6);
      tremolo = wave_has ch.tremolo (h 7);
    }

pub channel_by : (last : ℕ) (ch : Channel) → LegalChannel last ch → legal_channel last ch ≡ true
unfolding legal_channel Each
channel_by last ch h =
    all_by _
    (le-leb _ _ h.latched, (le-leb _ _ h.finetune, (le-leb _ _ h.volume, (period_by _ h.period, (period_by _ h.target, (le-leb _ _ h.memory, (wave_by _ h.vibrato, (wave_by _ h.tremolo, tt))))))))

-- a fresh channel is legal
pub fresh_channel_legal : (last : ℕ) → LegalChannel last fresh_channel
fresh_channel_legal last = record { latched = zero-le; finetune = zero-le; volume = zero-le; period = silent; target = silent; memory = zero-le; vibrato = fresh_wave_legal; tremolo = fresh_wave_legal }
