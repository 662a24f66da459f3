-- Limits as facts, with both ways between them and the tests.
-- Assumes nothing.
use Rattle.std.specs.Prelude.{ℕ, ◌≤◌, ◌≡◌, refl, Bool, true, false, not, ◌||◌, eqb, leb, ltb}
use Rattle.std.proofs.Common.{sym, ap, subst, ⊎_elim, arith, le-leb, eqb-true, leb-true, ltb-false}
use Rattle.laws.specs.Tests.{or_parts, and_right}
use Rattle.laws.specs.Every.{both, first_of, second_of, one_of, second_one}
use Rattle.common.specs.Limits.{least_cell_period, greatest_cell_period, least_period, greatest_period, between, legal_period, bad_period}

-- ---- a number from the least to the greatest
pub record Between (least greatest n : ℕ) : Type 0 where
  pub low : least ≤ n
  pub high : n ≤ greatest

pub between_has : (least greatest n : ℕ) → between least greatest n ≡ true → Between least greatest n
between_has least greatest n e =
    record {
      low = leb-true least n (first_of (leb least n) (leb n greatest) e);
      high = leb-true n greatest (second_of (leb least n) (leb n greatest) e);
    }

pub between_by : (least greatest n : ℕ) → Between least greatest n → between least greatest n ≡ true
between_by least greatest n h = both (leb least n) (leb n greatest) (le-leb least n h.low) (le-leb n greatest h.high)

-- ---- a period of a state or a tick
pub data LegalPeriod : ℕ → Type 0 where
  silent : LegalPeriod 0
  sounding : {p : ℕ} → least_period ≤ p → p ≤ greatest_period → LegalPeriod p

pub period_has : (p : ℕ) → legal_period p ≡ true → LegalPeriod p
period_has p e =
    ⊎_elim (λ (z : eqb p 0 ≡ true). subst LegalPeriod (sym (eqb-true p 0 z)) silent)
    (λ (b : between least_period greatest_period p ≡ true). let h = between_has least_period greatest_period p b in sounding h.low h.high)
    (one_of (eqb p 0) (between least_period greatest_period p) e)

pub period_by : (p : ℕ) → LegalPeriod p → legal_period p ≡ true
period_by p silent = refl
period_by p (sounding a b) = second_one (eqb p 0) _ (between_by least_period greatest_period p (record { low = a; high = b }))

pub data CellPeriod : ℕ → Type 0 where
  none : CellPeriod 0
  note : {p : ℕ} → least_cell_period ≤ p → p ≤ greatest_cell_period → CellPeriod p

pub cell_period_has : (p : ℕ) → bad_period p ≡ false → CellPeriod p
cell_period_has p h = by (eqb p 0) refl
  where
    by : (t : Bool) → eqb p 0 ≡ t → CellPeriod p
    by true e = subst CellPeriod (sym (eqb-true p 0 e)) none
    by false e =
        let q : ltb p least_cell_period || ltb greatest_cell_period p ≡ false = and_right (not (eqb p 0)) (ltb p least_cell_period || ltb greatest_cell_period p) (ap not e) h in
        let r = or_parts (ltb p least_cell_period) (ltb greatest_cell_period p) q in
        note (ltb-false p least_cell_period r.0) (ltb-false greatest_cell_period p r.1)

-- a state may hold every period that a cell may
pub cell_period_legal : (p : ℕ) → CellPeriod p → LegalPeriod p
cell_period_legal p none = silent
cell_period_legal p (note a b) = sounding {p = p} (omega arith) (omega arith)
