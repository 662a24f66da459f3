-- A finetune's periods are legal: its notes (`tuned_legal`), what is kept in its row (`kept_legal`), and semitones (`semitones_legal`). What is kept
-- lies between the row's first and last entries (`kept_high`, `kept_low`).
-- Assumes nothing.
use Rattle.std.specs.Prelude.{ℕ, zero, suc, ◌+◌, ◌≤◌, ◌<◌, ◌≡◌, refl, min, Bool, true, false, cond, eqb, ltb}
use Rattle.std.proofs.Math.Nat.{le_refl}
use Rattle.std.proofs.Common.{arith}
use borrow.Author.Tests.{lt-ltb, ltb-true, ltb-false}
use Rattle.std.proofs.Common.{zero-le}
use Rattle.laws.specs.Choice.{either}
use Rattle.laws.specs.Ranges.{some, first}
use Rattle.laws.specs.Numbers.{cond-le}
use Rattle.common.specs.Limits.{greatest_period}
use Rattle.common.specs.LimitFacts.{LegalPeriod}
use Rattle.common.specs.LimitFacts.LegalPeriod.{sounding}
use Rattle.tuning.specs.Table.{last_finetune, last_note, entry, greatest_of, least_of}
use Rattle.tuning.specs.Tuned.{place_of, tuned, kept, semitones}
use Rattle.tuning.specs.Rules.{entry_legal, entry_most, row_high, row_low}

-- a search finds a place below its bound, or the bound
first_most : (p : ℕ → Bool) (n : ℕ) → first p n ≤ n
unfolding first
first_most p zero = zero-le
first_most p (suc n) =
    let before : first p n ≤ suc n = omega (arith, first_most p n) in
    let here : n ≤ suc n = omega arith in
    let past : suc n ≤ suc n = omega arith in
    cond-le (suc n) (some p n) _ _ before (cond-le (suc n) (p n) _ _ here past)

pub place_most : (f p : ℕ) → place_of f p ≤ last_note
unfolding place_of
place_most f p = first_most _ last_note

module _ (f : ℕ) (h : f ≤ last_finetune) where
  entry_period : (i : ℕ) → i ≤ last_note → LegalPeriod (entry f i)
  entry_period i l = let e = entry_legal f i h l in sounding e.low e.high

  pub tuned_legal : (p : ℕ) → LegalPeriod p → LegalPeriod (tuned f p)
  unfolding tuned
  tuned_legal p l = either LegalPeriod (eqb f 0) _ _ (λ e. l) (λ e. entry_period (place_of 0 p) (place_most 0 p))

  pub semitones_legal : (p k : ℕ) → LegalPeriod (semitones f p k)
  unfolding semitones
  semitones_legal p k = entry_period (min (place_of f p + k) last_note) (omega arith)

  inside : (n : ℕ) → n ≤ greatest_of f → least_of f ≤ n → LegalPeriod n
  inside n g l = let high = (entry_legal f 0 h zero-le).high in let low = (entry_legal f last_note h (omega arith)).low in sounding {p = n} (omega arith) (omega arith)

  pub kept_legal : (n : ℕ) → LegalPeriod (kept f n)
  unfolding kept
  kept_legal n =
      either LegalPeriod (ltb (greatest_of f) n) _ _ (λ e. entry_period 0 zero-le)
      (λ e. either LegalPeriod (ltb n (least_of f)) _ _ (λ q. entry_period last_note (omega arith)) (λ q. inside n (ltb-false (greatest_of f) n e) (ltb-false n (least_of f) q)))

  -- and stays between the row's first and last entries
  pub kept_high : (n : ℕ) → kept f n ≤ greatest_of f
  unfolding kept
  kept_high n =
      either (λ (x : ℕ). x ≤ greatest_of f) (ltb (greatest_of f) n) _ _ (λ e. le_refl (greatest_of f))
      (λ e. either (λ (x : ℕ). x ≤ greatest_of f) (ltb n (least_of f)) _ _ (λ q. row_high f last_note h (omega arith)) (λ q. ltb-false (greatest_of f) n e))

  pub kept_low : (n : ℕ) → least_of f ≤ kept f n
  unfolding kept
  kept_low n =
      either (λ (x : ℕ). least_of f ≤ x) (ltb (greatest_of f) n) _ _ (λ e. row_low f 0 h zero-le)
      (λ e. either (λ (x : ℕ). least_of f ≤ x) (ltb n (least_of f)) _ _ (λ q. le_refl (least_of f)) (λ q. ltb-false n (least_of f) q))

-- numbers above every period are kept alike, so one may stand for the others
pub kept_most : (f n most : ℕ) → greatest_period < most → kept f (min n most) ≡ kept f n
unfolding kept
kept_most f n most h = go (ltb most n) refl
  where
    go : (b : Bool) → ltb most n ≡ b → cond (ltb (greatest_of f) (min n most)) (greatest_of f) (cond (ltb (min n most) (least_of f)) (least_of f) (min n most)) ≡ cond (ltb (greatest_of f) n) (greatest_of f) (cond (ltb n (least_of f)) (least_of f) n)
    go true e =
        let g = entry_most f 0 in
        let l = ltb-true most n e in
        rw (lt-ltb (greatest_of f) (min n most) (omega arith), lt-ltb (greatest_of f) n (omega arith))
    go false e = let same : min n most ≡ n = omega (arith, ltb-false most n e) in rw same
