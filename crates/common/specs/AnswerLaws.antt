-- What holds of a table of refusals: a line by its test, and what every verdict has.
-- Assumes nothing.
use Rattle.std.specs.Prelude.{ℕ, zero, suc, ◌<◌, ◌≡◌, refl, Bool, true, false, cond, List, [], ◌∷◌, get_or}
use Rattle.std.proofs.Common.{arith}
use Rattle.laws.specs.Choice.{either}
use Rattle.common.specs.Answers.{refused, accepted, Line, line, refusing}

-- ---- a line by its test
module _ {A : Type 0} (refuse : ℕ → ℕ → A) (work : A) where
  pub no_line : (x : A) → x ≡ work → x ≡ refusing refuse work []
  unfolding refusing
  no_line x e = e

  pub line_given : (number place : ℕ) (b : Bool) (ls : List Line) (x : A) → b ≡ true → x ≡ refuse number place → x ≡ refusing refuse work (line number b place ∷ ls)
  unfolding refusing
  line_given number place b ls x h e = rw h e

  pub line_passed : (number place : ℕ) (b : Bool) (ls : List Line) (x : A) → b ≡ false → x ≡ refusing refuse work ls → x ≡ refusing refuse work (line number b place ∷ ls)
  unfolding refusing
  line_passed number place b ls x h e = rw h e

pub ruleset lines = (no_line, line_given, line_passed)

-- ---- what holds of a table's verdict
-- no line was given
abbrev pub Passed : List Line → Type 0
Passed ls = (i : ℕ) → (get_or ls i (line 0 false 0)).given ≡ false

passed_more : (l : Line) (ls : List Line) → l.given ≡ false → Passed ls → Passed (l ∷ ls)
passed_more l ls e p zero = e
passed_more l ls e p (suc i) = p i

-- what holds of every refusal, and of the work where no line was given, holds of the call
pub refusing_has : {A : Type 0} (P : A → Type 0) (refuse : ℕ → ℕ → A) (work : A) (ls : List Line) → ((number place : ℕ) → P (refuse number place)) → (Passed ls → P work) → P (refusing refuse work ls)
unfolding refusing
refusing_has P refuse work [] f g = g (λ i. refl)
refusing_has P refuse work (l ∷ ls) f g = either P l.given _ _ (λ e. f l.number l.place) (λ e. refusing_has P refuse work ls f (λ p. g (passed_more l ls e p)))

-- where the work answers 0 and the call does not, the call has refused: it has left what every refusal leaves
pub refused_keeps : {A B : Type 0} (number : A → ℕ) (part : A → B) (kept : B) (refuse : ℕ → ℕ → A) (work : A) (ls : List Line) → number work ≡ 0 → ((n place : ℕ) → part (refuse n place) ≡ kept) → (number (refusing refuse work ls) ≡ 0 → ⊥) → part (refusing refuse work ls) ≡ kept
refused_keeps {A} number part kept refuse work ls z q = refusing_has (λ (a : A). (number a ≡ 0 → ⊥) → part a ≡ kept) refuse work ls (λ n place h. q n place) (λ p h. absurd (h z))

-- where the verdict is 0, the first line was not given, and the verdict of the others is 0
pub line_not_given : (l : Line) (ls : List Line) → 0 < l.number → (refusing refused (accepted 0) (l ∷ ls)).number ≡ 0 → (l.given ≡ false) × ((refusing refused (accepted 0) ls).number ≡ 0)
unfolding refusing
line_not_given l ls h e = by l.given e
  where
    by : (t : Bool) → (cond t (refused l.number l.place) (refusing refused (accepted 0) ls)).number ≡ 0 → (t ≡ false) × ((refusing refused (accepted 0) ls).number ≡ 0)
    by true q = let z : ⊥ = omega arith in absurd z
    by false q = (refl, q)
