-- What an accepted file is known to have: its cells and samples lie in it, and their numbers are in range.
-- Assumes nothing.
use Rattle.std.specs.Prelude.{ℕ, zero, suc, ◌+◌, ◌-◌, ◌*◌, ◌≤◌, ◌<◌, ◌≡◌, refl, Bool, true, false, cond, List, ◌∷◌, ltb, eqb, length}
use Rattle.std.proofs.Common.{sym, ◌∙◌, ap, subst, arith}
use borrow.Author.Tests.{lt-ltb, ltb-true, ltb-false, eq-eqb, ne_eqb, eqb-false, not-false, not-true}
use Rattle.laws.specs.Tests.{or_parts, and_right}
use Rattle.laws.specs.Search.{none_at, total_le, largest_le}
use Rattle.common.specs.Answers.{refused, accepted, Line, refusing}
use Rattle.reader.specs.File.{sample_count, channel_count, sample_words, header_volume, loop_start, loop_length, cells_in, sample_place, Module, last_pattern, song_length, entries, entry_of, cell_place, patterns_of}
use Rattle.common.specs.Limits.{loudest, rows}
use Rattle.common.specs.declared.Answer.{Answer}
use Rattle.reader.specs.Judge.{table, cell_lines, rest_lines, tagged, bad_length, bad_entry, bad_volume, bad_loop, bad_cell, verdict, module_line}
use Rattle.reader.specs.Samples.{looped_of, end_of, first_of, extent_of}
use Rattle.reader.specs.declared.Cell.{Cell}
use Rattle.reader.specs.declared.Extent.{Extent}
use Rattle.laws.specs.Ranges.{some}
use Rattle.common.specs.AnswerLaws.{line_given, line_passed, refusing_has, line_not_given}
use Rattle.common.specs.LimitFacts.{CellPeriod}

-- the table's lines, each as the fact that it was not given
pub record Accepted (m : Module) : Type 0 where
  pub long : m.layout.patterns ≤ length m.bytes
  pub channels : 0 < channel_count m
  pub song : (0 < song_length m) × (song_length m ≤ entries)
  pub named : (i : ℕ) → i < entries → entry_of m i ≤ last_pattern
  pub volumes : (k : ℕ) → k < sample_count m → header_volume m.bytes k ≤ loudest
  pub loops : (k : ℕ) → k < sample_count m → 1 < loop_length m.bytes k → loop_start m.bytes k + loop_length m.bytes k ≤ sample_words m.bytes k
  pub room : sample_place m (sample_count m) ≤ length m.bytes
  pub cells : (i : ℕ) → i < cells_in m.layout (rows * patterns_of m) → bad_cell m i ≡ false

-- ---- from the verdict
positive : (n : ℕ) → (n ≡ 0 → ⊥) → 0 < n
positive n f = omega (arith, f)

channels_by : (m : Module) → tagged m ≡ true → 0 < channel_count m
unfolding tagged
channels_by m h = positive (channel_count m) (eqb-false _ _ (not-true _ h))

song_by_lem : (m : Module) → bad_length m ≡ false → (0 < song_length m) × (song_length m ≤ entries)
unfolding bad_length
song_by_lem m h =
    let p = or_parts (eqb (song_length m) 0) (ltb entries (song_length m)) h in
    (positive (song_length m) (eqb-false _ _ p.0), ltb-false entries (song_length m) p.1)

named_by : (m : Module) → some (bad_entry m) entries ≡ false → (i : ℕ) → i < entries → entry_of m i ≤ last_pattern
unfolding bad_entry
named_by m h i l = ltb-false last_pattern (entry_of m i) (none_at (bad_entry m) i entries l h)

volumes_by : (m : Module) → some (bad_volume m) (sample_count m) ≡ false → (k : ℕ) → k < sample_count m → header_volume m.bytes k ≤ loudest
unfolding bad_volume
volumes_by m h k l = ltb-false loudest (header_volume m.bytes k) (none_at (bad_volume m) k (sample_count m) l h)

loops_by : (m : Module) → some (bad_loop m) (sample_count m) ≡ false → (k : ℕ) → k < sample_count m → 1 < loop_length m.bytes k → loop_start m.bytes k + loop_length m.bytes k ≤ sample_words m.bytes k
unfolding bad_loop
loops_by m h k l r = ltb-false (sample_words m.bytes k) (loop_start m.bytes k + loop_length m.bytes k) (and_right (ltb 1 (loop_length m.bytes k)) (ltb (sample_words m.bytes k) (loop_start m.bytes k + loop_length m.bytes k)) (lt-ltb 1 (loop_length m.bytes k) r) (none_at (bad_loop m) k (sample_count m) l h))

pub accepted_has : (m : Module) → (verdict m).number ≡ 0 → Accepted m
unfolding verdict rest_lines cell_lines
accepted_has m e =
    let p1 = line_not_given _ _ (omega arith) e in
    let p2 = line_not_given _ _ (omega arith) p1.1 in
    let p3 = line_not_given _ _ (omega arith) p2.1 in
    let p4 = line_not_given _ _ (omega arith) p3.1 in
    let p5 = line_not_given _ _ (omega arith) p4.1 in
    let p6 = line_not_given _ _ (omega arith) p5.1 in
    let p7 = line_not_given _ _ (omega arith) p6.1 in
    let p8 = line_not_given _ _ (omega arith) p7.1 in
    let p9 = line_not_given _ _ (omega arith) p8.1 in
    record {
      long = ltb-false (length m.bytes) m.layout.patterns p1.0;
      channels = channels_by m (not-false (tagged m) p2.0);
      song = song_by_lem m p3.0;
      named = named_by m p4.0;
      volumes = volumes_by m p5.0;
      loops = loops_by m p6.0;
      room = ltb-false (length m.bytes) (sample_place m (sample_count m)) p7.0;
      cells = λ i l. none_at (bad_cell m) i (cells_in m.layout (rows * patterns_of m)) l p9.0;
    }

-- a verdict counts nothing
pub verdict_answer : (m : Module) → verdict m ≡ refused (verdict m).number (verdict m).place
unfolding verdict
verdict_answer m = refusing_has (λ (a : Answer). a ≡ refused a.number a.place) refused (accepted 0) (table m) (λ number place. refl) (λ p. refl)

-- what a caller's test of the verdict shows
pub accepted_by : (m : Module) (v : Answer) → v ≡ verdict m → v.number ≡ 0 → (verdict m).number ≡ 0
accepted_by m v e z = ap (λ (x : Answer). x.number) (sym e) ∙ z

-- ---- the line of a call that is lent a module
module _ {A : Type 0} (refuse : ℕ → ℕ → A) (work : A) (m : Module) (more : List Line) (x : A) where
  -- a refused module's number and place are the call's
  pub module_given : ((verdict m).number ≡ 0 → ⊥) → x ≡ refuse (verdict m).number (verdict m).place → x ≡ refusing refuse work (module_line m ∷ more)
  module_given h e = line_given refuse work (verdict m).number (verdict m).place _ more x (rw (ne_eqb (verdict m).number 0 h)) e

  -- an accepted one leaves the lines that follow
  pub module_passed : (verdict m).number ≡ 0 → x ≡ refusing refuse work more → x ≡ refusing refuse work (module_line m ∷ more)
  module_passed z e = line_passed refuse work (verdict m).number (verdict m).place _ more x (rw (eq-eqb (verdict m).number 0 z)) e

-- ---- the cells that the table can name
-- a cell with a sample number to the last and period 0 or 113 to 856
pub record LegalCell (last : ℕ) (c : Cell) : Type 0 where
  pub sample : c.sample ≤ last
  pub period : CellPeriod c.period

module _ (m : Module) (a : Accepted m) where
  -- every entry names one of the patterns
  pub entry_named : (i : ℕ) → i < entries → entry_of m i < patterns_of m
  unfolding patterns_of
  entry_named i l = omega (arith, largest_le (entry_of m) i entries l)

  -- the patterns lie in the file, and so does each sample's part
  pub patterns_inside : cell_place m.layout (cells_in m.layout (rows * patterns_of m)) ≤ length m.bytes
  unfolding sample_place
  patterns_inside = omega (arith, a.room)

  pub sample_inside : (k : ℕ) → k < sample_count m → sample_place m k + 2 * sample_words m.bytes k ≤ length m.bytes
  unfolding sample_place
  sample_inside k l = omega (arith, a.room, total_le (sample_words m.bytes) k (sample_count m) l)

-- ---- the samples
-- its part lies in the file, its end in the part, and its loop before its end
pub record Inside (m : Module) (x : Extent) : Type 0 where
  pub order : x.from ≤ x.to
  pub within : x.to ≤ length m.bytes
  pub whole : x.end ≤ x.to - x.from
  pub loop : x.looped ≡ true → x.first < x.end

end_short : (m : Module) → Accepted m → (k : ℕ) → k < sample_count m → end_of m k ≤ 2 * sample_words m.bytes k
end_short m a k l = by (looped_of m k) (λ (r : looped_of m k ≡ true). a.loops k l (ltb-true 1 (loop_length m.bytes k) r)) refl
  where
    by : (t : Bool) → (looped_of m k ≡ true → loop_start m.bytes k + loop_length m.bytes k ≤ sample_words m.bytes k) → looped_of m k ≡ t → cond t (2 * (loop_start m.bytes k + loop_length m.bytes k)) (2 * sample_words m.bytes k) ≤ 2 * sample_words m.bytes k
    by true f e = omega (arith, f e)
    by false f e = omega arith

first_low : (m : Module) (k : ℕ) → looped_of m k ≡ true → first_of m k < end_of m k
first_low m k e = rw e (let h : 1 < loop_length m.bytes k = ltb-true 1 (loop_length m.bytes k) e in omega arith)

pub extent_inside : (m : Module) → Accepted m → (k : ℕ) → k ≤ sample_count m → Inside m (extent_of m k)
unfolding extent_of
extent_inside m a zero l = record { order = omega arith; within = omega arith; whole = omega arith; loop = λ e. let z : ◌≡◌ {A = Bool} true false = cc in absurd (subst (λ (b : Bool). cond b (Unit {0}) ⊥) z tt) }
extent_inside m a (suc k) l =
    record {
      order = omega arith;
      within = sample_inside m a k (omega arith);
      whole = omega (arith, end_short m a k (omega arith));
      loop = first_low m k;
    }
