-- Two cells at once, as the halves of a number of 32 bits: what the scan over all cells makes of them. Cited in the scan alone.
-- Assumes nothing.
use Rattle.std.specs.Prelude.{ℕ, ◌+◌, ◌*◌, ◌/◌, ◌%◌, Bool, not, ◌||◌, cond, List, eqb, ltb}
use Rattle.std.specs.Int.Bits.{bit_and}
use Rattle.common.specs.Bytes.{byte_at}
use Rattle.common.specs.Limits.{bad_period}

-- whether n has one of the mask's bits
unfoldable pub has : ℕ → ℕ → Bool
has mask n = not (eqb (bit_and n mask) 0)

-- ---- a half
-- a cell's first two bytes, the first one low
abbrev pub first_two : List ℕ → ℕ → ℕ
first_two xs at = byte_at xs at + byte_at xs (at + 1) * 256

-- the lower ten of the period's twelve bits
abbrev pub low_period : ℕ → ℕ
low_period x = x % 4 * 256 + x / 256

-- the bits of a first byte that no good cell has: the period's upper two, and those of a sample number above the last
abbrev pub upper_bits : ℕ → ℕ
upper_bits last = cond (ltb last 16) 0xFC 0xEC

-- ---- both halves
-- whether one of the two periods is bad
abbrev pub bad_periods : ℕ → Bool
bad_periods w = bad_period (low_period (w / 65536)) || bad_period (low_period (w % 65536))

-- a bit in each: the mark of a bad period
abbrev pub mark_bits : ℕ
mark_bits = 0x04000400

-- the upper bits in each
abbrev pub upper_halves : ℕ → ℕ
upper_halves last = upper_bits last * 65536 + upper_bits last

-- whether the bytes that were read, or the marks that were made, are those of a bad cell
unfoldable pub seen_bad : ℕ → ℕ → ℕ → Bool
seen_bad last bytes marks = has (upper_halves last) bytes || has mark_bits marks
