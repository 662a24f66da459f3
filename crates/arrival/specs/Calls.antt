-- Several calls, one after another, on any machine: what they take, one after another, is taken as one.
-- Assumes nothing.
use Rattle.std.specs.Prelude.{ℕ, ◌≡◌, take}
use Rattle.std.proofs.Math.Path.{refl, sym, ap}
use Rattle.std.proofs.Common.{◌∙◌}
use mathlib.Core.List.{List, [], ◌∷◌, ◌++◌}
use Rattle.ticks.specs.Play.{Mechanism, after_all, rendered, fit, after_fit}
use Rattle.ticks.specs.PlayLaws.{after_append, rendered_append}

-- a call is lent ticks, and room for so many numbers
pub record Call (T : Type 0) : Type 0 where
  pub ticks : List T
  pub room : ℕ

module _ {A W T : Type 0} (m : Mechanism A W T) where
  -- what a call takes
  abbrev pub taking : W → Call T → List T
  taking w c = take (fit m c.room w c.ticks) c.ticks

  -- what all calls take, the numbers that they write, and the machine after them
  unfoldable pub takings : W → List (Call T) → List T
  takings w [] = []
  takings w (c ∷ cs) = taking w c ++ takings (after_fit m c.room w c.ticks) cs

  unfoldable pub writings : W → List (Call T) → List A
  writings w [] = []
  writings w (c ∷ cs) = rendered m w (taking w c) ++ writings (after_fit m c.room w c.ticks) cs

  unfoldable pub after_calls : W → List (Call T) → W
  after_calls w [] = w
  after_calls w (c ∷ cs) = after_calls (after_fit m c.room w c.ticks) cs

  -- however it is cut
  pub calls_after : (w : W) (cs : List (Call T)) → after_calls w cs ≡ after_all m w (takings w cs)
  unfolding after_calls takings after_all
  calls_after w [] = refl
  calls_after w (c ∷ cs) =
      let v = after_fit m c.room w c.ticks in
      calls_after v cs ∙ sym (after_append m w (taking w c) (takings v cs))

  pub calls_write : (w : W) (cs : List (Call T)) → writings w cs ≡ rendered m w (takings w cs)
  unfolding writings takings rendered
  calls_write w [] = refl
  calls_write w (c ∷ cs) =
      let v = after_fit m c.room w c.ticks in
      ap (λ (xs : List A). rendered m w (taking w c) ++ xs) (calls_write v cs) ∙ sym (rendered_append m w (taking w c) (takings v cs))
