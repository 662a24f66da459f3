-- Registers: what they hold at first, and that what they hold stays legal from tick to tick.
-- Assumes nothing.
use Rattle.std.specs.Prelude.{ℕ, ◌<◌, ◌≡◌, refl, Bool, true, false, List, ltb, length, get_or, take}
use Rattle.std.proofs.Common.{arith, ltb-true, ltb-false}
use Rattle.std.proofs.lemmas.List.{length-replicate}
use Rattle.std.proofs.Math.ListN.{get_or-eq_default}
use Rattle.laws.specs.Each.{get_or-replicate}
use Rattle.laws.specs.Lists.{take-each}
use Rattle.common.specs.Limits.{width}
use Rattle.ticks.specs.declared.Command.{Command}
use Rattle.ticks.specs.declared.Tick.{Tick}
use Rattle.ticks.specs.Legal.{LegalCommand, LegalTick}
use Rattle.records.specs.Format.{at_first, held}
use Rattle.common.specs.LimitFacts.{silent}
use Rattle.ticks.specs.Commands.{nothing}

-- ---- at first
pub first_long : length at_first ≡ width
unfolding at_first
first_long = length-replicate width nothing

pub first_at : (i : ℕ) → get_or at_first i nothing ≡ nothing
unfolding at_first
first_at i = get_or-replicate nothing width i

-- ---- commands beside registers
-- each register's command is legal beside it
abbrev pub Beside : ℕ → List Command → List Command → Type 0
Beside last rs cs = (i : ℕ) → i < length rs → LegalCommand last (get_or rs i nothing).sample (get_or cs i nothing)

-- ---- registers that are held
pub nothing_legal : (last : ℕ) → LegalCommand last 0 nothing
nothing_legal last = record { sample = omega arith; volume = omega arith; period = silent; offset = omega arith; stays = λ s. refl; plain = λ s. refl }

-- each channel's register, held, is legal
abbrev pub Holding : ℕ → List Command → Type 0
Holding last rs = (i : ℕ) → LegalCommand last (get_or rs i nothing).sample (held (get_or rs i nothing))

nothing_held : (last : ℕ) → LegalCommand last 0 (held nothing)
unfolding held
nothing_held last = nothing_legal last

pub first_holding : (last : ℕ) → Holding last at_first
first_holding last i = rw (first_at i) (nothing_held last)

pub take-holding : (last c : ℕ) (rs : List Command) → Holding last rs → Holding last (take c rs)
take-holding last c rs = take-each (λ (r : Command). LegalCommand last r.sample (held r)) nothing (nothing_held last) c rs

held_legal : (last sounded : ℕ) (c : Command) → LegalCommand last sounded c → LegalCommand last c.sample (held c)
unfolding held
held_legal last sounded c l = record { sample = l.sample; volume = l.volume; period = l.period; offset = omega arith; stays = λ s. refl; plain = λ s. refl }

-- after a legal tick
pub tick_holding : (last : ℕ) (soundings : List ℕ) (t : Tick) → LegalTick last soundings t → Holding last t.commands
tick_holding last soundings t l i = go (ltb i (length soundings)) refl
  where
    go : (b : Bool) → ltb i (length soundings) ≡ b → LegalCommand last (get_or t.commands i nothing).sample (held (get_or t.commands i nothing))
    go true e = held_legal last (get_or soundings i 0) (get_or t.commands i nothing) (l.commands i (ltb-true i (length soundings) e))
    go false e = rw (get_or-eq_default t.commands nothing {n = i} (omega (arith, l.long, ltb-false i (length soundings) e))) (nothing_held last)
