-- The 32-bit float that is exactly z / 2 ^ k, by its 32 bits; and what 32 bits say, over whole numbers alone.
-- Assumes nothing.
use Rattle.std.specs.Prelude.{◌≡◌, cond, ℕ, ◌+◌, ◌-◌, ◌*◌, ◌/◌, ◌%◌, ◌^◌, ◌≤◌, ◌<◌, eqb, ℤ, pos, negsuc, nat_abs, Float}
use Rattle.std.specs.Float.{binary32}
use Rattle.std.specs.Float.Ieee.{size, of_bits}

-- ---- the float
-- the bit of a whole number's sign
abbrev pub sign_bit : ℤ → ℕ
sign_bit (pos n) = 0
sign_bit (negsuc n) = 1

-- 32 bits of three fields: 1 bit, 8 bits and 23 bits
abbrev pub word : ℕ → ℕ → ℕ → ℕ
word sign power digits = sign * 2 ^ 31 + power * 2 ^ 23 + digits

-- the 32 bits of z / 2 ^ k, where z has at most 24 binary digits and k is at most 126: all 0 for 0; otherwise the sign,
-- the power of two in 8 bits, and the digits of z moved up to 24 places, without the leading one, in 23 bits
unfoldable pub bits_of : ℤ → ℕ → ℕ
bits_of z k = cond (eqb (nat_abs z) 0) 0 (word (sign_bit z) (126 + size (nat_abs z) - k) (nat_abs z * 2 ^ (24 - size (nat_abs z)) - 2 ^ 23))

unfoldable pub exactly : ℤ → ℕ → Float
exactly z k = of_bits binary32 (bits_of z k)

-- ---- what 32 bits say
-- IEEE 754's fields of a float that is not 0 and not below 2 ^ -126: its sign, its power of two, 150 more than it is, and its significand, a whole number of 24 digits
abbrev pub sign_of : ℕ → ℕ
sign_of b = b / 2 ^ 31

abbrev pub power_of : ℕ → ℕ
power_of b = b / 2 ^ 23 % 2 ^ 8

abbrev pub significand_of : ℕ → ℕ
significand_of b = 2 ^ 23 + b % 2 ^ 23

-- the significand times the power of two is z / 2 ^ k, both times 2 ^ 150, so over whole numbers
pub record Shows (z : ℤ) (k b : ℕ) : Type 0 where
  pub sign : sign_of b ≡ sign_bit z
  pub lowest : 1 ≤ power_of b
  pub highest : power_of b ≤ 254
  pub number : significand_of b * 2 ^ power_of b ≡ nat_abs z * 2 ^ (150 - k)

-- b is the 32 bits of z / 2 ^ k: positive zero for 0
pub record Exact (z : ℤ) (k b : ℕ) : Type 0 where
  pub zero : nat_abs z ≡ 0 → b ≡ 0
  pub other : 0 < nat_abs z → Shows z k b
