-- The sides that a page asks for: one or two.
-- Assumes nothing.
use Rattle.std.specs.Prelude.{ℕ, ◌≡◌, ◌≤◌, true, false, Result, Ok, Err, refl}
use Rattle.std.proofs.Common.{arith}
use borrow.Author.Tests.{ne_eqb}
use Rattle.common.specs.declared.refusals.Refusal.{Refusal}
use Rattle.common.specs.declared.refusals.Rule.TheVariants.{Sides as SidesRule}
use Rattle.floats.specs.declared.Sides.{Sides}
use Rattle.floats.specs.declared.Sides.TheVariants.{One, Two}
use Rattle.floats.specs.Frames.{unasked}

-- how many they are
abbrev pub count_of : Sides → ℕ
count_of One = 1
count_of Two = 2

-- sides that are asked for, or refusal 24
abbrev pub Asked : ℕ → Result Sides Refusal → Type 0
Asked sides (Ok s) = sides ≡ count_of s
Asked sides (Err e) = (unasked sides ≡ true) × (e ≡ record { rule = SidesRule; place = 0 })

pub sides_some : (s : Sides) → 1 ≤ count_of s
sides_some One = omega arith
sides_some Two = omega arith

pub sides_few : (s : Sides) → count_of s ≤ 2
sides_few One = omega arith
sides_few Two = omega arith

pub sides_asked : (s : Sides) → unasked (count_of s) ≡ false
unfolding unasked
sides_asked One = refl
sides_asked Two = refl

pub neither_one_nor_two : (n : ℕ) → (n ≡ 1 → ⊥) → (n ≡ 2 → ⊥) → unasked n ≡ true
unfolding unasked
neither_one_nor_two n p q = rw (ne_eqb n 1 p, ne_eqb n 2 q)
