-- Fresh and legal channels: as facts, and as the yes/no questions that code answers. LegalFacts shows that they are the same.
-- Assumes nothing.
use Rattle.std.specs.Prelude.{ℕ, Bool, [], ◌∷◌, leb, eqb}
use Rattle.laws.specs.Ranges.{all}
use Rattle.common.specs.Limits.{loudest, last_byte, legal_period}
use Rattle.tuning.specs.Table.{last_finetune}
use Rattle.motion.specs.Waves.{fresh_wave}
use Rattle.motion.specs.Legal.{is_fresh_wave, legal_wave}
use Rattle.effects.specs.declared.Channel.{Channel}

-- ---- as facts
-- each channel: latched sample, finetune, volume, period, target, slide memory 0, and its waves
abbrev pub fresh_channel : Channel
fresh_channel = record { latched = 0; finetune = 0; volume = 0; period = 0; target = 0; memory = 0; vibrato = fresh_wave; tremolo = fresh_wave }

-- ---- as questions
-- every number 0
unfoldable pub is_fresh : Channel → Bool
is_fresh ch =
    all
    (eqb ch.latched 0
    ∷ eqb ch.finetune 0
    ∷ eqb ch.volume 0
    ∷ eqb ch.period 0
    ∷ eqb ch.target 0
    ∷ eqb ch.memory 0
    ∷ is_fresh_wave ch.vibrato
    ∷ is_fresh_wave ch.tremolo
    ∷ [])

-- latched sample to the last, finetune to 15 (8 to 15 meaning -8 to -1), volume to 64, period and target 0 or 108 to 907, slide memory 0 to 255,
-- and legal waves
unfoldable pub legal_channel : ℕ → Channel → Bool
legal_channel last ch =
    all
    (leb ch.latched last
    ∷ leb ch.finetune last_finetune
    ∷ leb ch.volume loudest
    ∷ legal_period ch.period
    ∷ legal_period ch.target
    ∷ leb ch.memory last_byte
    ∷ legal_wave ch.vibrato
    ∷ legal_wave ch.tremolo
    ∷ [])
