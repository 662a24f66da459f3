-- What the functions that read an accepted file need, over plain variables.
-- Assumes nothing.
use Prim.Native.Nat.{ℕ, zero, suc, ◌+◌, ◌*◌, ◌≤◌, ◌<◌}
use mathlib.Core.Path.{◌≡◌, refl, sym, ap, subst, ◌∙◌}
use mathlib.Core.Bool.{true, false}
use mathlib.Core.List.{List}
use native.Mathlib.Omega.{arith}
use native.Mathlib.Numerals.{add-one}
use lib.ListN.{length, get_or, set, replicate}
use borrow.Author.Tests.{lt-ltb, le-ltb}
use Rattle.laws.specs.Ranges.{total}
use Rattle.reader.specs.Layouts.{LegalLayout}
use Rattle.laws.specs.Each.{Parting, part_again, part_end, get_or-replicate}
use Rattle.reader.specs.File.{Module, lent, patterns_of, sample_count, sample_words, loop_start, loop_length, sample_behind, sample_place}
use Rattle.reader.specs.Judge.{verdict}
use Rattle.reader.specs.Samples.{no_extent, extent_of, extents_of}
use Rattle.reader.specs.Extents.{Placed}
use Rattle.common.specs.Limits.{sample_numbers}
use Rattle.reader.specs.Accept.{accepted_has}
use Rattle.reader.specs.declared.Layout.{Layout}
use Rattle.reader.specs.declared.Extent.{Extent}

pub accepted_long : (l : Layout) (xs : List ℕ) → (verdict (lent l xs)).number ≡ 0 → l.patterns ≤ length xs
accepted_long l xs e = (accepted_has (lent l xs) e).long

-- ---- a sample by what its header has
module _ (m : Module) (k from size start again : ℕ) (fe : from ≡ sample_place m k) (ze : size ≡ sample_words m.bytes k) (zb : size < 65536) (se : start ≡ loop_start m.bytes k) (ae : again ≡ loop_length m.bytes k) where
  pub looped_at : 1 < again → Placed m k (record { from = from; to = from + 2 * size; end = 2 * (start + again); looped = true; first = 2 * start })
  unfolding extent_of
  looped_at h = record { is = rw (lt-ltb 1 (loop_length m.bytes k) (omega arith), fe, ze, se, ae); short = omega arith }

  pub straight_at : again ≤ 1 → Placed m k (record { from = from; to = from + 2 * size; end = 2 * size; looped = false; first = 0 })
  unfolding extent_of
  straight_at h = record { is = rw (le-ltb 1 (loop_length m.bytes k) (omega arith), fe, ze); short = omega arith }

-- ---- the table of extents
-- it is filled up to sample number k, and the next begins at `from`
pub record Listed (m : Module) (table : List Extent) (from k : ℕ) : Type 0 where
  pub low : k ≤ sample_count m
  pub filled : Parting (extent_of m) (λ i. no_extent) no_extent sample_numbers table (k + 1)
  pub at : from ≡ sample_place m k
  pub small : from ≤ 530000 + 131070 * k

pub listed_begin : (m : Module) (table : List Extent) (x : Extent) (n from : ℕ) → table ≡ replicate sample_numbers x → x ≡ no_extent → n ≡ patterns_of m → from ≡ sample_behind m n 0 → from ≤ 530000 → Listed m table from 0
unfolding sample_place extent_of
listed_begin m table x n from t z e q l =
    record {
      low = omega arith;
      filled = rw (t, z) (record { long = refl; done = first; rest = λ k h. get_or-replicate no_extent sample_numbers k });
      at = rw (← e) q;
      small = omega arith;
    }
  where
    first : (k : ℕ) → k < 0 + 1 → get_or (replicate sample_numbers no_extent) k no_extent ≡ extent_of m k
    first zero h = refl
    first (suc k) h = absurd (omega arith)

next_sample : (m : Module) (k : ℕ) → sample_place m k + 2 * sample_words m.bytes k ≡ sample_place m (k + 1)
unfolding sample_place total
next_sample m k = rw (add-one k) (omega arith)

pub listed_again : (m : Module) (table : List Extent) (from k : ℕ) (x : Extent) → LegalLayout m.layout → Listed m table from k → k < sample_count m → Placed m k x → Listed m (set table (k + 1) x) x.to (k + 1)
unfolding extent_of
listed_again m table from k x y w l p =
    let to : x.to ≡ sample_place m k + 2 * sample_words m.bytes k = ap (λ (y : Extent). y.to) p.is in
    let begin : x.from ≡ sample_place m k = ap (λ (y : Extent). y.from) p.is in
    record {
      low = omega arith;
      filled = part_again (extent_of m) no_extent sample_numbers table (λ i. no_extent) (k + 1) (sample_count m + 1) x w.filled (omega arith) (omega (arith, y.samples)) (subst (λ (j : ℕ). x ≡ extent_of m j) (sym (add-one k)) p.is);
      at = to ∙ next_sample m k;
      small = omega (arith, w.at, w.small, p.short);
    }

pub listed_end : (m : Module) (table : List Extent) (from k : ℕ) → Listed m table from k → sample_count m ≤ k → table ≡ extents_of m
listed_end m table from k w h = part_end (extent_of m) no_extent sample_numbers table (λ i. no_extent) (k + 1) (sample_count m + 1) w.filled (omega arith) (omega (arith, w.low))

pub ruleset listing = (refl, listed_again, listed_end)
