-- What all layouts have in common.
-- Assumes nothing.
use Rattle.std.specs.Prelude.{ℕ, ◌+◌, ◌*◌, ◌%◌, ◌≤◌, ◌<◌, ◌≡◌, refl, ◌||◌, List, eqb}
use Rattle.std.proofs.Common.{sym, subst, arith}
use Rattle.laws.specs.Choice.{either}
use Rattle.common.specs.Bytes.{four_at}
use Rattle.reader.specs.declared.Layout.{Layout}
use Rattle.common.specs.Limits.{width, sample_numbers}
use Rattle.reader.specs.File.{entries, tag_mk, tag_4chn, tag_6chn, tag_8chn, channels_of, tag_place, layout_of, module_of}

-- what all layouts have in common
pub record LegalLayout (l : Layout) : Type 0 where
  pub samples : l.samples < sample_numbers
  pub sixteens : (l.samples + 1) % 16 ≡ 0
  pub channels : l.channels ≤ width
  pub song : l.song ≡ 20 + 30 * l.samples
  pub table : l.table ≡ l.song + 2
  pub tag : l.tag ≡ l.table + entries
  pub patterns : (l.tag ≤ l.patterns) × (l.patterns ≤ l.tag + 4)

-- a tag names at most eight
abbrev Few : ℕ → Type 0
Few n = n ≤ width

few_channels : (tag : ℕ) → channels_of tag ≤ width
unfolding channels_of
few_channels tag =
    either Few (eqb tag tag_mk || eqb tag tag_4chn) 4 _ (λ e. omega arith)
    (λ e. either Few (eqb tag tag_6chn) 6 _ (λ e. omega arith) (λ e. either Few (eqb tag tag_8chn) 8 0 (λ e. omega arith) (λ e. omega arith)))

-- so the layout of every module is legal
pub module_legal : (bytes : List ℕ) → LegalLayout (module_of bytes).layout
module_legal bytes =
    record {
      samples = omega arith;
      sixteens = refl;
      channels = few_channels (four_at bytes tag_place);
      song = refl;
      table = refl;
      tag = refl;
      patterns = (omega arith, omega arith);
    }

-- and so is one that is equal to it
pub layout_legal : (l : Layout) (bytes : List ℕ) → l ≡ layout_of bytes → LegalLayout l
layout_legal l bytes e = subst LegalLayout (sym e) (module_legal bytes)
