-- A channel and its command whose numbers fit their fields, and where in a tick's work that is known of what.
-- Assumes nothing.
use Rattle.std.specs.Prelude.{ℕ, ◌≤◌, ◌≡◌, List}
use Rattle.std.proofs.Common.{arith}
use borrow.Author.Tests.{eq-eqb, ne_eqb}
use Rattle.common.specs.Limits.{last_byte, last_word}
use Rattle.ticks.specs.Legal.{Spellable, period_small}
use Rattle.reader.specs.declared.Cell.{Cell}
use Rattle.effects.specs.LegalFacts.{LegalChannel}
use Rattle.effects.specs.Work.{row_channel, tick_channel, worked}
use Rattle.effects.specs.Untouched.{row_sample, row_periods, row_numbers}
use Rattle.effects.specs.Commands.{after_sound, voiced_by, voiced}
use Rattle.effects.specs.declared.Channel.{Channel}
use Rattle.effects.specs.declared.Voiced.{Voiced}

-- latched sample, finetune, volume and memory are bytes, period and target two
pub record SmallChannel (ch : Channel) : Type 0 where
  pub latched : ch.latched ≤ last_byte
  pub finetune : ch.finetune ≤ last_byte
  pub volume : ch.volume ≤ last_byte
  pub memory : ch.memory ≤ last_byte
  pub period : ch.period ≤ last_word
  pub target : ch.target ≤ last_word

pub record Small (v : Voiced) : Type 0 where
  pub channel : SmallChannel v.channel
  pub command : Spellable v.command

-- legal numbers are small
pub channel_small : (last : ℕ) (ch : Channel) → last ≤ last_byte → LegalChannel last ch → SmallChannel ch
channel_small last ch h l =
    record {
      latched = omega (arith, l.latched);
      finetune = omega (arith, l.finetune);
      volume = omega (arith, l.volume);
      memory = l.memory;
      period = period_small ch.period l.period;
      target = period_small ch.target l.target;
    }

-- what is small after the tick is small before the waves move on, and after the row's or the tick's work
module _ (bytes : List ℕ) (c : Cell) (u t : ℕ) (ch : Channel) where
  pub worked_small : (k : ℕ) → Small (voiced bytes c u t ch k) → SmallChannel (worked bytes c u t ch)
  unfolding voiced voiced_by after_sound
  worked_small k h = let s = h.channel in record { latched = s.latched; finetune = s.finetune; volume = s.volume; memory = s.memory; period = s.period; target = s.target }

  module _ (h : SmallChannel (worked bytes c u t ch)) where
    pub row_small : u ≡ 0 → SmallChannel (row_channel bytes c ch)
    unfolding worked
    row_small e = rw (eq-eqb u 0 e) at h

    pub tick_small : (u ≡ 0 → ⊥) → (t ≡ 0 → ⊥) → SmallChannel (tick_channel c t ch)
    unfolding worked
    tick_small e z = rw (ne_eqb u 0 e, ne_eqb t 0 z) at h

-- of a channel whose sample's work is done
pub periods_small : (bytes : List ℕ) (c : Cell) (ch r : Channel) → SmallChannel (row_numbers bytes c ch) → r ≡ row_sample bytes c ch → SmallChannel (row_periods c r)
unfolding row_channel
periods_small bytes c ch r s e = rw e s

pub numbers_small : (bytes : List ℕ) (c : Cell) (ch : Channel) → SmallChannel (row_channel bytes c ch) → SmallChannel (row_numbers bytes c ch)
numbers_small bytes c ch s = record { latched = s.latched; finetune = s.finetune; volume = s.volume; memory = s.memory; period = s.period; target = s.target }
