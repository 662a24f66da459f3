-- A line's numbers, byte by byte: which frames a byte has, and the loop over the bytes. Assumes nothing.
use mathlib.Core.Path.{◌≡◌, sym, ap, ◌∙◌}
use mathlib.Core.List.{List}
use Prim.Native.Nat.{ℕ, ◌+◌, ◌-◌, ◌*◌, ◌/◌, ◌≤◌, ◌<◌}
use native.Mathlib.Nat.{zero-add, suc-mul, add-mul, mul-le-mul, mul-le-mul_right, lt_of_mul-lt-mul_right}
use native.Mathlib.Omega.{arith}
use lib.ListN.{length, get_or}
use lib.IntN.{ℤ}
use borrow.Rule.Slice.PartMut.{put_mid, mid_of}
use mir.Syntax.{w64}
use mir.Val.{Fits}
use Rattle.runs.specs.Lines.{parts, byte_of}
use Rattle.runs.specs.Written.{Written, written_part, written_more}
use Rattle.runs.specs.Inverses.{unit, dividends, most_frames, lasting, lasting_enough, lasting_most, Inverse, product_fits, quotient_low, quotient_high}
use Rattle.voice_runs.specs.Runs.{product_of, weighed_at, piece}

-- ---- which frames a byte has
-- how far it is to the byte after the m-th, rounded up to whole frames
abbrev reach : ℕ → ℕ → ℕ → ℕ
reach from growth m = parts * m + (parts - from + growth - 1)

-- frame start lies in the m-th byte
abbrev In : ℕ → ℕ → ℕ → ℕ → Type 0
In from growth m start = (parts * m ≤ from + start * growth) × (from + start * growth < parts * m + parts)

-- and next is as many frames as fit the way to the byte after it
module _ (from growth i m start next : ℕ) (v : Inverse growth i) (f : from < parts) (h : In from growth m start) (low : next * growth ≤ reach from growth m) (high : reach from growth m < next * growth + growth) where
  next_in : In from growth (m + 1) next
  next_in = (omega (arith, v.slow), omega (arith, v.slow))

  next_later : start < next
  next_later = lt_of_mul-lt-mul_right growth (let l : start * growth < next * growth = omega arith in l)

  next_near : next ≤ start + lasting growth
  next_near =
      let n = lasting growth in
      let l : next * growth < (start + (n + 1)) * growth = omega (arith, lasting_enough growth v.brief, add-mul start (n + 1) growth, add-mul n 1 growth) in
      let k = lt_of_mul-lt-mul_right growth l in
      omega arith

  byte_same : (j : ℕ) → start ≤ j → j < next → byte_of from growth j ≡ m
  byte_same j l k = omega (arith, mul-le-mul_right growth l, mul-le-mul_right growth k, suc-mul j growth)

-- ---- the loop: cell is the m-th byte's first frame, or the line's
pub record Bytewise (bytes : List ℕ) (weight from growth inverse : ℕ) (old cells : List ℤ) (due cell m : ℕ) : Type 0 where
  pub next : due ≡ reach from growth m * inverse
  pub here : In from growth m cell
  pub written : Written (weighed_at weight bytes from growth) 0 cell old cells

module _ (bytes : List ℕ) (weight from growth inverse count : ℕ) (old : List ℤ) (v : Inverse growth inverse) (f : from < parts) where
  module _ (short : count ≤ piece) (cells : List ℤ) (due cell m : ℕ) (b : Bytewise bytes weight from growth inverse old cells due cell m) where
    module _ (h : cell < count) where
      reach_low : reach from growth m + parts < dividends
      reach_low =
          let l : cell ≤ piece = omega arith in
          let g : growth ≤ parts = omega (arith, v.slow) in
          omega (arith, mul-le-mul l g, b.here, v.slow)

      -- so many frames on the next byte begins
      next_cell : due / unit ≡ reach from growth m * inverse / unit
      next_cell = ap (λ x. x / unit) b.next

      low : due / unit * growth ≤ reach from growth m
      low = rw next_cell (quotient_low growth inverse (reach from growth m) v (omega (arith, reach_low)))

      high : reach from growth m < due / unit * growth + growth
      high = rw next_cell (quotient_high growth inverse (reach from growth m) v (omega (arith, reach_low)))

      due_next : due + parts * inverse ≡ reach from growth (m + 1) * inverse
      due_next =
          let e : reach from growth m + parts ≡ reach from growth (m + 1) = omega arith in
          ap (λ x. x + parts * inverse) b.next ∙ sym (add-mul (reach from growth m) parts inverse) ∙ ap (λ x. x * inverse) e

      pub next_fits : Fits w64 (due + parts * inverse)
      next_fits = rw due_next (product_fits growth inverse (reach from growth (m + 1)) v (omega (arith, reach_low)))

      pub next_less : count - due / unit < count - cell
      next_less = omega (arith, next_later from growth inverse m cell (due / unit) v f b.here low high)

      pub bytewise_more : (r : ℤ) (part : List ℤ) → r ≡ product_of weight (get_or bytes m 0) → count + most_frames ≤ length cells → Written (λ _. r) 0 (lasting growth) (mid_of cell (length cells - cell) cells) part → Bytewise bytes weight from growth inverse old (put_mid cell (length cells - cell) cells part) (due + parts * inverse) (due / unit) (m + 1)
      unfolding weighed_at
      bytewise_more r part e room w =
          record {
            next = due_next;
            here = next_in from growth inverse m cell (due / unit) v f b.here low high;
            written =
                written_more _ 0 cell old cells b.written (λ _. r) (lasting growth) (due / unit) _
                (rw (zero-add cell) (written_part _ cell (length cells - cell) (lasting growth) cells part (omega arith) (omega (arith, lasting_most growth)) w))
                (next_near from growth inverse m cell (due / unit) v f b.here low high)
                (λ j l k. e ∙ ap (λ i. product_of weight (get_or bytes i 0)) (sym (byte_same from growth inverse m cell (due / unit) v f b.here low high j l k)));
          }
