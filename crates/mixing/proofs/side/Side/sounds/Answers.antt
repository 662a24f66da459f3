-- Sides are equal where their numbers are.
use Rattle.std.specs.Prelude.{◌≡◌, refl, Bool, true, false, not, cond, ℕ, eqb}
use denote.Enum.Bare.{sameb}
use Rattle.voice.specs.declared.Voice.{Voice}
use Rattle.voice.specs.Voice.{silent_of}
use Rattle.voice.specs.Frames.{side_of}
use Rattle.mixing.specs.contracts.side.Side.{the_type}
use Rattle.mixing.specs.declared.side.Side.{Side}
use Rattle.mixing.specs.declared.side.Side.TheVariants.{Left, Right}
use Rattle.mixing.specs.Sides.{number_of, sounds_of}
use Rattle.mixing.proofs.side.Side.sounds.Goals as goal

same_side : (a b : Side) → eqb (number_of a) (number_of b) ≡ sameb the_type a b
same_side Left Left = refl
same_side Left Right = refl
same_side Right Left = refl
same_side Right Right = refl

not_is : (b : Bool) → not b ≡ cond b false true
not_is true = refl
not_is false = refl

module _ (a b : Side) (i : ℕ) (v : Voice) (t : Bool) (e : number_of a ≡ side_of i) (q : t ≡ sameb the_type a b) where
  on_side : (s : Bool) → t ≡ true → s ≡ silent_of v → not s ≡ sounds_of (number_of b) i v
  unfolding sounds_of
  on_side s h p = rw (← e, same_side a b, ← q, h, ← p) (not_is s)

  off_side : t ≡ false → t ≡ sounds_of (number_of b) i v
  unfolding sounds_of
  off_side h = rw (← e, same_side a b, ← q, h) refl

pub returns-then-eq : goal.returns-then-eq
returns-then-eq c = on_side _ _ _ _ _ c.of.ensures c.eq.ensures _ c.if-eq.true c.silent.ensures

pub returns-else-eq : goal.returns-else-eq
returns-else-eq c = off_side _ _ _ _ _ c.of.ensures c.eq.ensures c.if-eq.false
