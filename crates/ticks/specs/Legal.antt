-- Legal ticks: the ranges of what a tick tells the voices, for players, streams and voices alike.
-- Assumes nothing.
use Rattle.std.specs.Prelude.{ℕ, zero, suc, ◌≤◌, ◌<◌, ◌≡◌, refl, false, List, [], ◌∷◌, length, get_or}
use Rattle.std.proofs.Common.{ap, arith}
use Rattle.common.specs.Limits.{loudest, least_tempo, greatest_tempo, last_byte, last_word}
use Rattle.ticks.specs.declared.Command.{Command}
use Rattle.ticks.specs.declared.Tick.{Tick}
use Rattle.common.specs.LimitFacts.{Between, LegalPeriod, silent, sounding}
use Rattle.ticks.specs.Commands.{nothing, sounding_of}

-- of samples to the last, beside the sample that sounded before: without a start it stays, and the offset is 0
pub record LegalCommand (last sounding : ℕ) (c : Command) : Type 0 where
  pub sample : c.sample ≤ last
  pub volume : c.volume ≤ loudest
  pub period : LegalPeriod c.period
  pub offset : c.offset ≤ last_byte
  pub stays : c.start ≡ false → c.sample ≡ sounding
  pub plain : c.start ≡ false → c.offset ≡ 0

-- sample, volume and offset are bytes, the period two
pub record Spellable (c : Command) : Type 0 where
  pub sample : c.sample ≤ last_byte
  pub volume : c.volume ≤ last_byte
  pub period : c.period ≤ last_word
  pub offset : c.offset ≤ last_byte

pub period_small : (p : ℕ) → LegalPeriod p → p ≤ last_word
period_small p silent = omega arith
period_small p (sounding h k) = omega arith

pub command_spellable : (last sounded : ℕ) (c : Command) → last ≤ last_byte → LegalCommand last sounded c → Spellable c
command_spellable last sounded c h l =
    record { sample = omega (arith, l.sample); volume = omega (arith, l.volume); period = period_small c.period l.period; offset = l.offset }

-- a command for each of the channels, whose sounding samples before the tick are given
pub record LegalTick (last : ℕ) (soundings : List ℕ) (t : Tick) : Type 0 where
  pub tempo : Between least_tempo greatest_tempo t.tempo
  pub long : length t.commands ≡ length soundings
  pub commands : (i : ℕ) → i < length soundings → LegalCommand last (get_or soundings i 0) (get_or t.commands i nothing)

pub length-sounding : (cs : List Command) → length (sounding_of cs) ≡ length cs
unfolding sounding_of
length-sounding [] = refl
length-sounding (c ∷ cs) = ap suc (length-sounding cs)

pub get_or-sounding : (cs : List Command) (i : ℕ) → get_or (sounding_of cs) i 0 ≡ (get_or cs i nothing).sample
unfolding sounding_of
get_or-sounding [] i = refl
get_or-sounding (c ∷ cs) zero = refl
get_or-sounding (c ∷ cs) (suc i) = get_or-sounding cs i

-- each tick legal beside the samples that sound when it comes
pub data LegalTicks : ℕ → List ℕ → List Tick → Type 0 where
  none : {last : ℕ} {soundings : List ℕ} → LegalTicks last soundings []
  more : {last : ℕ} {soundings : List ℕ} {t : Tick} {ts : List Tick} → LegalTick last soundings t → LegalTicks last (sounding_of t.commands) ts → LegalTicks last soundings (t ∷ ts)
