-- Laws of what is legal in a record: the decoder's tests say what `LegalCommand` means (`beside_has`, `beside_by`), legal ticks can be spelled
-- by a record's bytes (`tick_spellable`), and a tick that is padded with nothing leaves channels unused (`padded_unused`). Assumes nothing.
use Rattle.std.specs.Prelude.{ℕ, ◌≤◌, ◌<◌, ◌≡◌, refl, Bool, true, false, ◌||◌, List, [], ◌∷◌, eqb, ltb, length, get_or}
use Rattle.std.proofs.Common.{true≢false, arith}
use Rattle.std.proofs.Math.ListN.{get_or-eq_default}
use borrow.Author.Tests.{le-leb, leb-true, eq-eqb, eqb-true, ltb-true, ltb-false}
use Rattle.laws.specs.Each.{length-partly, get_or-other}
use Rattle.laws.specs.Every.{all_at, Each, all_by}
use Rattle.common.specs.Limits.{width, loudest, last_byte}
use Rattle.ticks.specs.declared.Command.{Command}
use Rattle.ticks.specs.declared.Tick.{Tick}
use Rattle.ticks.specs.Legal.{LegalCommand, LegalTick, Spellable, command_spellable}
use Rattle.records.specs.Legal.{legal_beside}
use Rattle.laws.specs.Ranges.{padded}
use Rattle.common.specs.LimitFacts.{period_has, period_by}
use Rattle.ticks.specs.Commands.{nothing}

-- ---- the channels in use
-- nothing is told the channels past the first c
abbrev pub Unused : ℕ → List Command → Type 0
Unused c cs = (i : ℕ) → c ≤ i → get_or cs i nothing ≡ nothing

-- in none of these ticks
abbrev pub AllUnused : ℕ → List Tick → Type 0
AllUnused c [] = Unit
AllUnused c (t ∷ ts) = Unused c t.commands × AllUnused c ts

-- ---- what bytes can spell
-- the commands of the first c channels are such
abbrev pub AllSpellable : ℕ → List Command → Type 0
AllSpellable c cs = (i : ℕ) → i < c → Spellable (get_or cs i nothing)

-- and the tempo is a byte
pub record SpellableTick (c : ℕ) (t : Tick) : Type 0 where
  pub tempo : t.tempo ≤ last_byte
  pub commands : AllSpellable c t.commands

-- ---- what is tested is what is meant
unless_has : (start b : Bool) → start || b ≡ true → start ≡ false → b ≡ true
unless_has true b e s = absurd (true≢false s)
unless_has false b e s = e

unless_by : (start b : Bool) → (start ≡ false → b ≡ true) → start || b ≡ true
unless_by true b h = refl
unless_by false b h = h refl

module _ (last sounded : ℕ) (c : Command) where
  pub beside_has : legal_beside last sounded c ≡ true → LegalCommand last sounded c
  unfolding legal_beside
  beside_has e =
      let at = all_at _ e in
      record {
        sample = leb-true c.sample last (at 0);
        volume = leb-true c.volume loudest (at 1);
        period = period_has c.period (at 2);
        offset = leb-true c.offset last_byte (at 3);
        stays = λ s. eqb-true c.sample sounded (unless_has c.start (eqb c.sample sounded) (at 4) s);
        plain = λ s. eqb-true c.offset 0 (unless_has c.start (eqb c.offset 0) (at 5) s);
      }

  pub beside_by : LegalCommand last sounded c → legal_beside last sounded c ≡ true
  unfolding legal_beside Each
  beside_by l =
      all_by _ (
        le-leb c.sample last l.sample,
        (
          le-leb c.volume loudest l.volume,
          (
            period_by c.period l.period,
            (
              le-leb c.offset last_byte l.offset,
              (
                unless_by c.start (eqb c.sample sounded) (λ s. eq-eqb c.sample sounded (l.stays s)),
                (unless_by c.start (eqb c.offset 0) (λ s. eq-eqb c.offset 0 (l.plain s)), tt),
              ),
            ),
          ),
        ),
      )

-- ---- legal ticks can be spelled
pub tick_spellable : (last c : ℕ) (soundings : List ℕ) (t : Tick) → last ≤ last_byte → c ≤ length soundings → LegalTick last soundings t → SpellableTick c t
tick_spellable last c soundings t h k l =
    record {
      tempo = l.tempo.high;
      commands = λ i p. command_spellable last (get_or soundings i 0) (get_or t.commands i nothing) h (l.commands i (omega arith));
    }

-- ---- past the count nothing is told
pub padded_unused : (f : ℕ → Command) (c : ℕ) → Unused c (padded f nothing c width)
padded_unused f c i h = go (ltb i width) refl
  where
    go : (b : Bool) → ltb i width ≡ b → get_or (padded f nothing c width) i nothing ≡ nothing
    go true e = get_or-other f c (λ k. nothing) width i nothing (ltb-true i width e) h
    go false e = get_or-eq_default (padded f nothing c width) nothing {n = i} (rw (length-partly f c (λ k. nothing) width) (ltb-false i width e))
