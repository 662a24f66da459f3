-- What the leaf functions need, over plain variables.
-- Assumes nothing.
use mathlib.Core.Path.{◌≡◌}
use Prim.Native.Nat.{ℕ, ◌+◌, ◌*◌, ◌/◌, ◌%◌, ◌≤◌, ◌<◌}
use native.Mathlib.Omega.{arith}
use native.Mathlib.Nat.{mul-le-mul_right}
use lib.Dec.{ltb}
use Rattle.laws.specs.Tests.{same_test}
use mathlib.Core.List.{List}
use Rattle.common.specs.Bytes.{four_at}
use Rattle.reader.specs.File.{channels_of, tag_place, layout_for, layout_of}
use Rattle.reader.specs.Layouts.{LegalLayout, layout_legal}
use Rattle.common.specs.Limits.{width}
use Rattle.reader.specs.declared.Layout.{Layout}

-- the first byte alone decides whether a sample number is above the last, which is one less than a multiple of 16
pub number_high : (last b0 b2 r : ℕ) → (last + 1) % 16 ≡ 0 → r ≡ b0 → b2 < 256 → ltb last r ≡ ltb last (b0 / 16 * 16 + b2 / 16)
number_high last b0 b2 r m e h = same_test last r last (b0 / 16 * 16 + b2 / 16) (λ (k : last < r). omega arith) (λ (k : last < b0 / 16 * 16 + b2 / 16). omega arith)

-- so many rows have few cells
pub few_cells : (l : Layout) (rows : ℕ) → LegalLayout l → l.channels * rows ≤ width * rows
few_cells l rows h = mul-le-mul_right rows h.channels

-- ---- the layout that a tag names
module _ (bytes : List ℕ) (tag c : ℕ) (ce : c ≡ channels_of tag) (te : tag ≡ four_at bytes tag_place) where
  pub tagged_layout : layout_for 31 c ≡ layout_of bytes
  tagged_layout = rw (ce, te)

  pub tagged_legal : LegalLayout (layout_for 31 c)
  tagged_legal = layout_legal (layout_for 31 c) bytes tagged_layout
